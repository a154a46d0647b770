use mathlib.Core.Path.{refl}
use Rattle.access_set.specs.Member.{bit_of}
use Rattle.filter_matchable.proofs.matchable.in_word.Goals as goal

pub returns : goal.returns
unfolding bit_of
returns c = refl
