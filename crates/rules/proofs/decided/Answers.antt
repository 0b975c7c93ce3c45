use Rattle.std.proofs.Common.{◌≡◌, rules}
use Rattle.std.proofs.lemmas.Iterator.{YieldsList-from_slice, YieldsList-from_zip}
use Rattle.std.proofs.lemmas.Iterator.Consumers.{YieldsList-from_enumerate, YieldsList-turn}
use Rattle.std.specs.Iterator.Adapters.{enumerate_count, enumerate_source, zip_first, zip_second}
use Rattle.std.specs.Slice.Iter.{iter_rest}
use Rattle.rules.proofs.Growing.{brings_turn, pair_at}
use Rattle.rules.proofs.decided.Goals as goal

pub loop-j-preserved : goal.loop-j-preserved
loop-j-preserved c =
    let az = c.args.at.now in
    let zs = c.args.sources.now in
    let s = c.into_iter-j-iterator.result in
    let first : iter_rest (zip_first (enumerate_source s)) ≡ az = search rules in
    let second : iter_rest (zip_second (enumerate_source s)) ≡ zs = search rules in
    let none : enumerate_count s ≡ 0 = search rules in
    let all = YieldsList-from_enumerate {s = s} (YieldsList-from_zip (YieldsList-from_slice az first) (YieldsList-from_slice zs second)) none in
    let t = YieldsList-turn all c.loop-j.yielded c.loop-j.j-iterator c.loop-j.yielded_by c.next.result c.next.new.self (c.in-Some.j, (c.in-Some.a, c.in-Some.z)) c.in-Some.is c.next.ensures.steps in
    brings_turn _ az zs c.from-m.result c.loop-j.yielded _ c.loop-j.invariant (pair_at az zs _ t.0 t.1) c.source_entry.ensures
