-- #105, aliases: the name asked for, its beginning replaced by an alias's target. "It needs no permission."
use Rattle.std.specs.Prelude.{ℕ, zero, suc, Bool, cond, List, ◌++◌, ltb, length, drop}
use Rattle.std.proofs.Math.Option.{Option, none, some}
use Rattle.rules.specs.Lists.{any, first}
use Rattle.rules.specs.Name.{Schema, Name, same_name, covers}
use Rattle.rules.specs.Directory.{Alias}

-- "that beginning is replaced by the target"
unfoldable pub replaced : Name → Alias → Name
replaced n a = a.target ++ drop (length a.name) n

abbrev pub through : (Name → Option Name) → Name → Option Alias → Option Name
through next n none = some n
through next n (some a) = next (replaced n a)

module _ (S : Schema) (as' : List Alias) where
  -- the alias with whose name the name begins: no alias is below another, so that there is one at most (`one-leads`)
  unfoldable pub leading : Name → Option Alias
  leading n = first (λ a. covers S a.name n) as'

  -- "while the name asked for begins with an alias's name, that beginning is replaced", fewer than `k` times, else none; "a replaced name of more
  -- than 8 parts is absent and not replaced again"
  unfoldable pub followed : ℕ → Name → Option Name
  followed zero n = none
  followed (suc k) n = cond (ltb 8 (length n)) (some n) (through (followed k) n (leading n))

  -- the name asked for from then on; none where "after eight replacements a ninth" is due
  abbrev pub resolved : Name → Option Name
  resolved n = followed 9 n

  -- an alias has this name
  unfoldable pub aliased : Name → Bool
  aliased n = any (λ a. same_name S a.name n) as'
