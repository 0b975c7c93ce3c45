-- The bytes that the library gives are those of the definition.
use Rattle.std.proofs.Common.{rules}
use Rattle.clausebytes.proofs.Words.{word_is}
use Rattle.clausebytes.proofs.word_of.Goals as goal

pub returns : goal.returns
returns c = search (rules, word_is)
