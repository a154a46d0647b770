-- A noted request by the number of its operation.
use Rattle.std.specs.Prelude.{ℕ, ◌+◌, ◌≤◌, ◌≡◌, length, take, drop}
use Rattle.std.proofs.Common.{sym, arith}
use Rattle.rules.specs.Sheet.{Bytes}
use Rattle.rules.specs.Judge.{Grammar}
use Rattle.rules.specs.Request.{Selection, Search, Operation, read, compare, list, search}
use Rattle.request_sheet.specs.Noted.{NotedOperation}
use Rattle.request_sheet.specs.declared.Asked.{Asked}
use Rattle.answer_search.specs.Query.{Seeks}

-- what holds of every operation that may stand in the request holds of the one that does
module _ (G : Grammar) (w : ℕ) (q : Bytes) (a : Asked) (P : Operation → Type 0) where
  pub by_read : (o : Operation) → NotedOperation G w q o a → a.operation ≡ 1 → ((s : Selection) → P (read s)) → P o
  by_read (read s) n e f = f s
  by_read (compare t v) n e f = let z : a.operation ≡ 2 = n.operation in absurd (omega arith)
  by_read (list limit) n e f = let z : a.operation ≡ 3 = n.operation in absurd (omega arith)
  by_read (search s) n e f = let z : a.operation ≡ 4 = n.operation in absurd (omega arith)

  pub by-compare : (o : Operation) → NotedOperation G w q o a → a.operation ≡ 2
      → ((t : ℕ) (v : Bytes) → a.attribute ≡ t → take a.length (drop a.value q) ≡ v → P (compare t v)) → P o
  by-compare (read s) n e f = let z : a.operation ≡ 1 = n.operation in absurd (omega arith)
  by-compare (compare t v) n e f = f t v n.attribute n.bytes
  by-compare (list limit) n e f = let z : a.operation ≡ 3 = n.operation in absurd (omega arith)
  by-compare (search s) n e f = let z : a.operation ≡ 4 = n.operation in absurd (omega arith)

  pub by-list : (o : Operation) → NotedOperation G w q o a → a.operation ≡ 3 → ((limit : ℕ) → a.limit ≡ limit → P (list limit)) → P o
  by-list (read s) n e f = let z : a.operation ≡ 1 = n.operation in absurd (omega arith)
  by-list (compare t v) n e f = let z : a.operation ≡ 2 = n.operation in absurd (omega arith)
  by-list (list limit) n e f = f limit n.limit
  by-list (search s) n e f = let z : a.operation ≡ 4 = n.operation in absurd (omega arith)

  pub by-search : (o : Operation) → NotedOperation G w q o a → (a.operation ≡ 1 → ⊥) → (a.operation ≡ 2 → ⊥) → (a.operation ≡ 3 → ⊥)
      → ((s : Search) → Seeks G w q s (record { limit = a.limit; order_type = a.order_type; falling = a.falling; subset = a.subset; filter = a.filter; edition = a.edition }) → P (search s)) → P o
  by-search (read s) n e₁ e₂ e₃ f = absurd (e₁ n.operation)
  by-search (compare t v) n e₁ e₂ e₃ f = absurd (e₂ n.operation)
  by-search (list limit) n e₁ e₂ e₃ f = absurd (e₃ n.operation)
  by-search (search s) n e₁ e₂ e₃ f = f s (record { limit = sym n.limit; ordering = sym n.ordering; subset = sym n.subset; reads = n.reads; edition = sym n.edition })

-- the value of a compare lies within the request
pub value-within : (G : Grammar) (w : ℕ) (q : Bytes) (a : Asked) (o : Operation) → NotedOperation G w q o a → a.operation ≡ 2 → a.value + a.length ≤ length q
value-within G w q a (read s) n e = let z : a.operation ≡ 1 = n.operation in absurd (omega arith)
value-within G w q a (compare t v) n e = n.within
value-within G w q a (list limit) n e = let z : a.operation ≡ 3 = n.operation in absurd (omega arith)
value-within G w q a (search s) n e = let z : a.operation ≡ 4 = n.operation in absurd (omega arith)
