-- The beginning that the text from `at` on shares with the piece is all of the piece.
use Rattle.value_substring.specs.Laws.Pieces.{stands-common}
use Rattle.value_substring.proofs.stands.Goals as goal

pub returns : goal.returns
returns c =
    let A = c.args in
    rw c.common.ensures (stands-common A.v.now A.p.now A.at)
