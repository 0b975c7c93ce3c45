use Rattle.std.proofs.Common.{◌≡◌, ◌∙◌, ap, length, sym, add-one, suc}
use Rattle.std.specs.Option.{unwrap_or}
use Rattle.lists.specs.Lists.{index_of}
use Rattle.joining.proofs.Scratch.{place_or_length, closed_past}
use Rattle.joining.proofs.number.Goals as goal

pub returns : goal.returns
returns c =
    let x = c.args.x in
    let ks = c.args.ks.now in
    let e : c.unwrap_or.result ≡ index_of x ks = c.unwrap_or.ensures ∙ ap (λ o. unwrap_or o (length ks)) c.place.ensures ∙ place_or_length x ks in
    rw add-one (ap suc e) ∙ sym (closed_past x ks c.if-x-eq0.false)
