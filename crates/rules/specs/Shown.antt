-- Document 01, "Like directories", and #105: what a requester is shown, and when two directory sheets are alike.
use Rattle.std.specs.Prelude.{ℕ, ◌≡◌, Bool, List, [], ◌∷◌}
use Rattle.rules.specs.Lists.{any, keep, sift, SameMembers}
use Rattle.rules.specs.Sheet.{Bytes}
use Rattle.rules.specs.declared.Format.{Format}
use Rattle.rules.specs.Name.{Name}
use Rattle.rules.specs.Judge.{accept}
use Rattle.rules.specs.Directory.{Directory, directory_of, Held, Entry, entries_in, aliases}
use Rattle.rules.specs.Permission.{Item, permissions_of, Read, Browse, ReturnDN, DiscloseOnError, Compare, FilterMatch}
use Rattle.rules.specs.Decision.{Setting, entry, of_type, of_value, granted}
use Rattle.rules.specs.Request.{Request, request_of}
use Rattle.rules.specs.Serve.{setting_of}

-- which entries are shown, which of their types, and which of those types' values
pub record Sight : Type 0 where
  pub entries : Name → Bool
  pub types : Name → ℕ → Bool
  pub values : Name → ℕ → Bytes → Bool

module _ (g : Sight) where
  unfoldable pub shown_held : Name → Held → Held
  shown_held n h = record { type = h.type; values = keep (g.values n h.type) h.values }

  unfoldable pub shown_entry : Entry → Entry
  shown_entry e = record { name = e.name; held = sift (λ h. g.types e.name h.type) (shown_held e.name) e.held }

  -- "what is shown stands in directory order, types and values in the order of their lines"
  unfoldable pub shown_by : List Entry → List Entry
  shown_by es = sift (λ e. g.entries e.name) shown_entry es

-- demand 3: "each entry with Read, Browse, ReturnDN or DiscloseOnError"
abbrev pub of_entries : List ℕ
of_entries = Read ∷ Browse ∷ ReturnDN ∷ DiscloseOnError ∷ []

-- "the types it holds with Read, Compare, FilterMatch or DiscloseOnError"
abbrev pub of_types : List ℕ
of_types = Read ∷ Compare ∷ FilterMatch ∷ DiscloseOnError ∷ []

-- "of those the values with one of these"
abbrev pub of_values : List ℕ
of_values = Read ∷ Compare ∷ FilterMatch ∷ DiscloseOnError ∷ []

unfoldable pub sight : Setting → Sight
sight σ = record {
  entries = λ n. any (granted σ n entry) of_entries;
  types = λ n t. any (granted σ n (of_type t)) of_types;
  values = λ n t v. any (granted σ n (of_value t v)) of_values;
}

-- what the requester of the setting is shown of a directory
unfoldable pub shown : Setting → Directory → List Entry
shown σ d = shown_by (sight σ) (entries_in d)

-- #105: "only if they hold the same aliases with the same targets", each by its stored name and target
abbrev pub SameAliases : Directory → Directory → Type 0
SameAliases d₁ d₂ = SameMembers (aliases d₁) (aliases d₂)

-- two accepted directory sheets of one schema that are alike, under the permission sheet `p`, for the requester of the request sheet `q`;
-- "where permissions get 11 to 14, or the request 21 to 23", and with 24 of #106, one schema is enough
pub record Alike (f : Format) (p q d₁ d₂ : Bytes) : Type 0 where
  pub first : Directory
  pub second : Directory
  pub accepted₁ : directory_of f d₁ ≡ accept first
  pub accepted₂ : directory_of f d₂ ≡ accept second
  pub schema : first.schema ≡ second.schema
  pub same : (is : List Item) (r : Request) → permissions_of f first.schema p ≡ accept is → request_of f first.schema q ≡ accept r
      → SameAliases first second × (shown (setting_of first is r.requester) first ≡ shown (setting_of second is r.requester) second)
