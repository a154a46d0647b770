-- Laws of `Matchable`: one type more, one value more; and what the rows of an entry are known to be.
use Rattle.std.specs.Prelude.{ℕ, zero, suc, ◌+◌, ◌-◌, ◌/◌, ◌%◌, ◌^◌, ◌≤◌, ◌<◌, ◌≡◌, refl, Bool, false, ◌&&◌, cond, List, length, get_or, set, replicate}
use Rattle.std.proofs.Common.{sym, ap, ◌∙◌, subst, add-one, arith}
use Rattle.std.proofs.Math.Decide.{dec_lt}
use Rattle.std.specs.Int.Bits.{bit_or}
use Rattle.rules.specs.Sheet.{Bytes}
use Rattle.rules.specs.Directory.{Stored}
use Rattle.rules.specs.Permission.{FilterMatch}
use Rattle.rules.specs.Decision.{Setting, of_type}
use Rattle.access_set.specs.Member.{bit_of}
use Rattle.access_set.specs.Laws.Bit.{bit-none}
use Rattle.tables.specs.Book.{first_column, BookFits, type_count, entry_count, schema, first_at}
use Rattle.tables.specs.Held.{type_at}
use Rattle.tables.specs.Sets.{granted_at}
use Rattle.tables.specs.World.{Entries}
use Rattle.tables.specs.Laws.Book.{schema-length, end_is}
use Rattle.tables.specs.Laws.World.{rows-within, bytes-within, bytes-short}
use Rattle.filter_matchable.specs.Matchable.{bit_at, value_seen, MatchableTypes, MatchableValues}
use Rattle.filter_matchable.specs.Matchable.{RowsWithin}
use Rattle.filter_matchable.specs.Laws.Bits.{word-other, word-here, bits-other, bits-here}

-- ---- types

-- no bit from `n` on is set
abbrev pub Clear : ℕ → ℕ → Type 0
Clear x n = (j : ℕ) → n ≤ j → bit_of x j ≡ false

pub clear_none : Clear 0 0
clear_none j l = bit-none j

module _ (x y : ℕ) (b : Bool) (r : ℕ) (small : r < 64) (e : y ≡ cond b (2 ^ (r % 64)) 0) where
  one : y ≡ cond b (2 ^ r) 0
  one = let z : r % 64 ≡ r = omega arith in e ∙ ap (λ (m : ℕ). cond b (2 ^ m) 0) z

  pub clear-on : Clear x r → Clear (bit_or x y) (r + 1)
  clear-on h j l = word-other x y b r one j (λ z. omega arith) ∙ h j (omega arith)

  pub types-on : (σ : Setting) (es : List Stored) (book : List ℕ) (n asked : ℕ) → Clear x r → b ≡ (bit_of asked r && granted_at σ es n (of_type (type_at (schema book) r)) FilterMatch) → MatchableTypes σ es book n asked r x → MatchableTypes σ es book n asked (r + 1) (bit_or x y)
  types-on σ es book n asked h g s = record { type = λ j l. go j l (dec_lt j r) }
    where
      go : (j : ℕ) → j < r + 1 → Dec (j < r) → bit_of (bit_or x y) j ≡ (bit_of asked j && granted_at σ es n (of_type (type_at (schema book) j)) FilterMatch)
      go j l (yes m) = word-other x y b r one j (λ z. omega arith) ∙ s.type j m
      go j l (no m) =
          let z : r ≡ j = omega arith in
          subst (λ (i : ℕ). bit_of (bit_or x y) i ≡ (bit_of asked i && granted_at σ es n (of_type (type_at (schema book) i)) FilterMatch)) z (word-here x y b r one (h r (omega arith)) ∙ g)

pub types-none : (σ : Setting) (es : List Stored) (book : List ℕ) (n asked : ℕ) → MatchableTypes σ es book n asked 0 0
types-none σ es book n asked = record { type = λ j l. absurd (omega arith) }

-- all types of the schema, as code counts them
pub types-full : (σ : Setting) (es : List Stored) (book : List ℕ) (k asked x : ℕ) → BookFits book → MatchableTypes σ es book (k + 1) asked (type_count book) x → MatchableTypes σ es book (suc k) asked (length (schema book)) x
types-full σ es book k asked x f s = subst (λ (n : ℕ). MatchableTypes σ es book n asked (length (schema book)) x) (add-one k) (subst (λ (n : ℕ). MatchableTypes σ es book (k + 1) asked n x) (sym (schema-length f)) s)

-- ---- values

-- no bit of the words from `n` on is set
abbrev pub Blank : List ℕ → ℕ → Type 0
Blank words n = (j : ℕ) → n ≤ j → bit_at words j ≡ false

zeros : (m i : ℕ) → ◌≡◌ {A = ℕ} (get_or (replicate m 0) i 0) 0
zeros zero i = refl
zeros (suc m) zero = refl
zeros (suc m) (suc i) = zeros m i

pub blank_none : (m n : ℕ) → Blank (replicate m 0) n
unfolding bit_at
blank_none m n j l = ap (λ (x : ℕ). bit_of x (j % 64)) (zeros m (j / 64)) ∙ bit-none (j % 64)

module _ (words : List ℕ) (first i y : ℕ) (b : Bool) (e : y ≡ cond b (2 ^ ((i - first) % 64)) 0) (room : (i - first) / 64 < length words) (low : first ≤ i) where
  abbrev more : List ℕ
  more = set words ((i - first) / 64) (bit_or (get_or words ((i - first) / 64) 0) y)

  pub blank-on : Blank words (i - first) → Blank (set words ((i - first) / 64) (bit_or (get_or words ((i - first) / 64) 0) y)) (i + 1 - first)
  blank-on h j l = bits-other words (i - first) y b e room j (λ z. omega arith) ∙ h j (omega arith)

  pub values-on : (σ : Setting) (es : List Stored) (d : Bytes) (book held : List ℕ) (k asked : ℕ) → first_at book k ≡ first → Blank words (i - first) → b ≡ value_seen σ es d book held (suc k) asked i
      → MatchableValues σ es d book held k asked i words → MatchableValues σ es d book held k asked (i + 1) (set words ((i - first) / 64) (bit_or (get_or words ((i - first) / 64) 0) y))
  values-on σ es d book held k asked f h g s = record { value = λ j m l. go j m l (dec_lt j i) }
    where
      go : (j : ℕ) → first_at book k ≤ j → j < i + 1 → Dec (j < i) → bit_at more (j - first_at book k) ≡ value_seen σ es d book held (suc k) asked j
      go j m l (yes n) = bits-other words (i - first) y b e room (j - first_at book k) (λ z. omega arith) ∙ s.value j m n
      go j m l (no n) =
          let z : i ≡ j = omega arith in
          let a : j - first_at book k ≡ i - first = omega arith in
          ap (bit_at more) a ∙ bits-here words (i - first) y b e room (h (i - first) (omega arith)) ∙ g ∙ ap (value_seen σ es d book held (suc k) asked) z

pub values-none : (σ : Setting) (es : List Stored) (d : Bytes) (book held : List ℕ) (k asked first : ℕ) (words : List ℕ) → first_at book k ≡ first → MatchableValues σ es d book held k asked first words
values-none σ es d book held k asked first words f = record { value = λ j m l. absurd (omega arith) }

pub values-until : (σ : Setting) (es : List Stored) (d : Bytes) (book held : List ℕ) (k asked i end : ℕ) (words : List ℕ) → end ≤ i → MatchableValues σ es d book held k asked i words → MatchableValues σ es d book held k asked end words
values-until σ es d book held k asked i end words l s = record { value = λ j m n. s.value j m (omega arith) }

-- ---- the rows of an entry

-- the rows as code takes them
pub values-within : {σ : Setting} {es : List Stored} {d : Bytes} {book held : List ℕ} → Entries σ es d book held → (k : ℕ) → k < entry_count book
    → RowsWithin d held (first_at book k) (get_or book (first_column + 1 + k) 0)
values-within {book = book} E k l = rw (end_is book k) record { room = (rows-within E k l).1; part = λ i from to. bytes-within E k l i from to; short = λ i from to. bytes-short E k l i from to }
