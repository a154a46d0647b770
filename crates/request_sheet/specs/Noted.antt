-- What `judge` promises: the refusal of the rules, and, of an accepted request, where everything stands that was asked.
use Rattle.std.specs.Prelude.{ℕ, ◌+◌, ◌≤◌, ◌≡◌, false, length, take, drop, Result, Ok, Err}
use Rattle.rules.specs.Sheet.{Bytes}
use Rattle.rules.specs.Name.{Schema, Name}
use Rattle.rules.specs.declared.Format.{Format}
use Rattle.rules.specs.Judge.{accept, refuse, Grammar}
use Rattle.rules.specs.Request.{Selection, Search, Operation, read, compare, list, search, Request, request_grammar, request_of, filter}
use Rattle.rules.specs.Places.{lines_at, parts_of, types_of, ordering_by}
use Rattle.rules.specs.Refusals.{refusal_number}
use Rattle.rules.specs.declared.refusals.Refusal.{Refusal}
use Rattle.rules.specs.declared.Edition.TheVariants.{LaterLogic}
use Rattle.request_sheet.specs.declared.Asked.{Asked}

-- a name: the K 9 lines from `at` on, `n` of them
pub record NotedName (w : ℕ) (q : Bytes) (name : Name) (at n : ℕ) : Type 0 where
  pub parts : parts_of n (lines_at w q at) ≡ name
  pub count : length name ≡ n
  pub most : n ≤ 8

-- K 12, and the K 13 lines
pub record NotedSelection (w : ℕ) (q : Bytes) (s : Selection) (r : Asked) : Type 0 where
  pub listed : r.listed ≡ s.listed
  pub types : types_of r.types_listed (lines_at w q r.types) ≡ s.types
  pub count : length s.types ≡ r.types_listed
  pub most : r.types_listed ≤ 16
  pub values : r.values ≡ s.values

-- no K 12: its fields are 0
pub record NoSelection (r : Asked) : Type 0 where
  pub listed : r.listed ≡ false
  pub types : r.types ≡ 0
  pub count : r.types_listed ≡ 0
  pub values : r.values ≡ false

-- no K 14: its fields are 0
pub record NoAssertion (r : Asked) : Type 0 where
  pub attribute : r.attribute ≡ 0
  pub value : r.value ≡ 0
  pub count : r.length ≡ 0

-- no K 16, no K 15 and no filter: their fields are 0, and no edition
pub record NoFilter (r : Asked) : Type 0 where
  pub type : r.order_type ≡ 0
  pub falling : r.falling ≡ false
  pub subset : r.subset ≡ 0
  pub filter : r.filter ≡ 0
  pub edition : r.edition ≡ LaterLogic

-- a read: K 12
pub record NotedRead (w : ℕ) (q : Bytes) (s : Selection) (r : Asked) : Type 0 where
  pub operation : r.operation ≡ 1
  pub limit : r.limit ≡ 0
  pub selection : NotedSelection w q s r
  pub no-assertion : NoAssertion r
  pub no-filter : NoFilter r

-- a compare: K 14, its type `t`, and where the bytes `v` begin
pub record NotedCompare (w : ℕ) (q : Bytes) (t : ℕ) (v : Bytes) (r : Asked) : Type 0 where
  pub operation : r.operation ≡ 2
  pub limit : r.limit ≡ 0
  pub no-selection : NoSelection r
  pub attribute : r.attribute ≡ t
  pub bytes : take r.length (drop r.value q) ≡ v
  pub within : r.value + r.length ≤ length q
  pub no-filter : NoFilter r

-- a list with the size limit `n`
pub record NotedList (n : ℕ) (r : Asked) : Type 0 where
  pub operation : r.operation ≡ 3
  pub limit : r.limit ≡ n
  pub no-selection : NoSelection r
  pub no-assertion : NoAssertion r
  pub no-filter : NoFilter r

-- a search: K 12, K 16, K 15, and the position where the rules read the filter, by their grammar
pub record NotedSearch (G : Grammar) (w : ℕ) (q : Bytes) (s : Search) (r : Asked) : Type 0 where
  pub operation : r.operation ≡ 4
  pub limit : r.limit ≡ s.limit
  pub selection : NotedSelection w q s.selection r
  pub no-assertion : NoAssertion r
  pub ordering : ordering_by r.order_type r.falling ≡ s.ordering
  pub subset : r.subset ≡ s.subset
  pub reads : filter G 16 128 (lines_at w q r.filter) (λ f left rest. accept f) ≡ accept s.filter
  pub edition : r.edition ≡ s.edition

-- by the operation
abbrev pub NotedOperation : Grammar → ℕ → Bytes → Operation → Asked → Type 0
NotedOperation G w q (read s) r = NotedRead w q s r
NotedOperation G w q (compare t v) r = NotedCompare w q t v r
NotedOperation G w q (list limit) r = NotedList limit r
NotedOperation G w q (search s) r = NotedSearch G w q s r

-- the request `x` as noted in `r`
pub record RequestNoted (G : Grammar) (w : ℕ) (q : Bytes) (x : Request) (r : Asked) : Type 0 where
  pub level : r.level ≡ x.requester.level
  pub requester : NotedName w q x.requester.name r.requester r.requester_parts
  pub base : NotedName w q x.base r.base r.base_parts
  pub operation : NotedOperation G w q x.operation r
  pub short : length q ≤ 8192

-- the result for the sheet `q` in the format `f` under the schema `S`: what is noted of the request that the rules accept, or their refusal
abbrev pub RequestJudged : Format → Schema → Bytes → Result Asked Refusal → Type 0
RequestJudged f S q (Ok a) = (x : Request) × (request_of f S q ≡ accept x) × RequestNoted (request_grammar f.top) f.width q x a
RequestJudged f S q (Err r) = request_of f S q ≡ refuse (refusal_number r)
