-- Laws of a refusal that came before: where the reader then stands does not matter.
use Prim.Native.Nat.{ℕ}
use Rattle.std.specs.Prelude.{◌≡◌, Result, Ok, Err}
use Rattle.std.specs.Result.{result_and}
use Rattle.std.proofs.Math.Path.{refl}
use Rattle.rules.specs.Judge.{Grammar}
use Rattle.rules.specs.Refusals.{refusal_in}
use Rattle.rules.specs.declared.refusals.Refusal.{Refusal}
use Rattle.rules.proofs.Laws.Refusals.{refusal-some}
use Rattle.sheet_due.specs.Lines.{reached_in, due_at, group_at}
use Rattle.sheet_due.specs.Laws.Outcomes.{due-alike, group-alike}
use Rattle.sheet_reader.specs.Advances.{from_reader}
use Rattle.sheet_reader.specs.declared.Reader.{Reader}

module _ (G : Grammar) (w : ℕ) (r : Reader) where
  pub due-before : (b : Result (Unit {0}) Refusal) (k : ℕ) → due_at G w r.sheet.now (reached_in (result_and b (Ok r.at))) k ≡ due_at G w r.sheet.now (from_reader r (refusal_in b)) k
  due-before (Ok u) k = refl
  due-before (Err e) k = due-alike G w r.sheet.now (reached_in (Err e)) (from_reader r (refusal_in {A = Unit {0}} (Err e))) k refl (refusal-some e)

  pub group-before : (b : Result (Unit {0}) Refusal) (k j : ℕ) → group_at G w r.sheet.now (reached_in (result_and b (Ok r.at))) k j ≡ group_at G w r.sheet.now (from_reader r (refusal_in b)) k j
  group-before (Ok u) k j = refl
  group-before (Err e) k j = group-alike G w r.sheet.now (reached_in (Err e)) (from_reader r (refusal_in {A = Unit {0}} (Err e))) k j refl (refusal-some e)
