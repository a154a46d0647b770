-- What the lines that are due come to. Each record has a refusal number, 0 where there is no refusal; what stands beside it counts only then.
use Rattle.std.specs.Prelude.{ℕ, ◌≡◌, Result, Ok, Err}
use Rattle.rules.specs.Refusals.{refusal_number}
use Rattle.rules.specs.declared.refusals.Refusal.{Refusal}
use Rattle.sheet_line.specs.declared.Line.{Line}

-- the position after some lines
pub record Reached : Type 0 where
  pub refusal : ℕ
  pub next : ℕ

-- a line that was due
pub record Due : Type 0 where
  pub refusal : ℕ
  pub line : Line

-- a line, and the position after the lines that it counts
pub record Group : Type 0 where
  pub refusal : ℕ
  pub line : Line
  pub next : ℕ

-- the result is the value `x` where the refusal number `n` is 0, else the refusal of that number
abbrev pub Gives : {A : Type 0} → Result A Refusal → ℕ → A → Type 0
Gives (Ok y) n x = (n ≡ 0) × (y ≡ x)
Gives (Err r) n x = refusal_number r ≡ n
