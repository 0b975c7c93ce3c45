use Rattle.std.proofs.Common.{◌≡◌, take}
use Rattle.clauses.specs.Records.{instanced_of}
use Rattle.merging.proofs.Own.{joined_own}
use Rattle.merging.proofs.joined_own.Given as goal

abbrev pub invariant-loop-m : goal.invariant-loop-m
invariant-loop-m l = l.t ≡ joined_own (instanced_of l.n).instance l.g l.l (take l.m-index l.literals) l.initial.t
