-- Laws of `Book`: a column has as many numbers as are counted, and its numbers are the book's.
use Rattle.std.specs.Prelude.{ℕ, suc, ◌+◌, ◌-◌, ◌≤◌, ◌<◌, ◌≡◌, List, length, get_or, take, drop}
use Rattle.std.proofs.Common.{◌∙◌, arith, length-drop, length-take-le, get_or-take, get_or-drop}
use Rattle.tables.specs.Book.{BookFits, schema_column, parent_column, first_column, type_count, entry_count, schema, parent_at, parents, first_at}

cut-length : (b : List ℕ) (at n : ℕ) → at + n ≤ length b → length (take n (drop at b)) ≡ n
cut-length b at n h = length-take-le n (drop at b) (simp length-drop (omega (arith, h)))

cut_at : (b : List ℕ) (at n k : ℕ) → k < n → get_or (take n (drop at b)) k 0 ≡ get_or b (at + k) 0
cut_at b at n k h = get_or-take n (drop at b) k 0 h ∙ get_or-drop at b k 0

-- a part of the book as the code cuts it
pub cut-part : (b : List ℕ) (at n : ℕ) → take (at + n - at) (drop at b) ≡ take n (drop at b)
cut-part b at n = let e : at + n - at ≡ n = omega arith in rw e

-- the row after the values of the entry of index `k`, as the code reads it
pub end_is : (b : List ℕ) (k : ℕ) → get_or b (first_column + 1 + k) 0 ≡ first_at b (suc k)
end_is b k = let e : first_column + 1 + k ≡ first_column + suc k = omega arith in rw e

module _ {b : List ℕ} (h : BookFits b) where
  pub schema-length : length (schema b) ≡ type_count b
  unfolding schema
  schema-length = cut-length b schema_column (type_count b) (omega (arith, h.size, h.few-types))

  pub parents-length : length (parents b) ≡ entry_count b
  unfolding parents
  parents-length = cut-length b parent_column (entry_count b) (omega (arith, h.size, h.few-entries))

module _ (b : List ℕ) (k : ℕ) where
  pub type-at : k < type_count b → get_or (schema b) k 0 ≡ get_or b (schema_column + k) 0
  unfolding schema
  type-at l = cut_at b schema_column (type_count b) k l

  pub parent-at : k < entry_count b → get_or (parents b) k 0 ≡ parent_at b k
  unfolding parents
  parent-at l = cut_at b parent_column (entry_count b) k l
