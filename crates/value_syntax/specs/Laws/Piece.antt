-- Laws of a piece: with its runs shortened, or none to shorten.
use Rattle.std.specs.Prelude.{◌-◌, ◌≤◌, ◌≡◌, false, length, take}
use Rattle.std.proofs.Common.{arith, sym, ap, ◌∙◌, take_all}
use Rattle.rules.specs.Sheet.{Bytes}
use Rattle.rules.specs.Value.{text, shorten, folded, normal_piece}
use Rattle.rules.proofs.Laws.Blanks.{shorten-length}
use Rattle.value_blank.specs.declared.Text.{Text}
use Rattle.value_blank.specs.Blank.{has_run, text_of}
use Rattle.value_blank.specs.Laws.Blank.{no_run}
use Rattle.value_blank.specs.Laws.Text.{text-bytes}

pub piece-plain : (p : Bytes) → has_run p ≡ false → folded text p ≡ normal_piece text p
unfolding normal_piece
piece-plain p e = ap (folded text) (sym (no_run p e))

pub piece-short : (p : Bytes) (t : Text) → t ≡ text_of (take 64 (shorten p)) → length p ≤ 64 → folded text (take (t.length - 0) t.bytes) ≡ normal_piece text p
unfolding normal_piece
piece-short p t e h = ap (folded text) (text-bytes t (take 64 (shorten p)) e ∙ take_all 64 (shorten p) (omega (arith, shorten-length p)))
