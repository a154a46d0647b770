-- A request's filter by positions of the sheet, as the code reads it. It is over a grammar of the rules.
use Rattle.std.specs.Prelude.{ℕ, zero, suc, ◌+◌, ◌-◌, true, cond, eqb}
use Rattle.rules.specs.Sheet.{Bytes}
use Rattle.rules.specs.Judge.{Grammar}
use Rattle.request_piece.specs.Pieces.{on_step, pieces_at}
use Rattle.sheet_line.specs.declared.Line.{Line}
use Rattle.sheet_due.specs.Lines.{seen_at, misplaced_by}
use Rattle.sheet_due.specs.declared.Seen.{Seen}
use Rattle.request_piece.specs.Progress.{Progress}
use Rattle.request_piece.specs.Progress.{Read}
use Rattle.request_filter.specs.Node.{Node}
use Rattle.request_filter.specs.Node.{Operator, Item}

-- pieces that were read make an item
abbrev pub item_node : Progress → Node
item_node (Read next left) = Item next left
item_node (Progress.Refused n) = Node.Refused n

-- `n` filters, each read by `one`
unfoldable pub parts_at : (ℕ → ℕ → Progress) → ℕ → ℕ → ℕ → Progress
parts_at one zero at left = Read at left
parts_at one (suc n) at left = on_step (one at left) (parts_at one n)

-- the parts of an operator are read by `one`
abbrev pub by_node : (ℕ → ℕ → Progress) → Node → Progress
by_node one (Operator n next left) = parts_at one n next left
by_node one (Item next left) = Read next left
by_node one (Node.Refused n) = Progress.Refused n

module _ (G : Grammar) (w : ℕ) (q : Bytes) where
  -- by the kind of a filter's line; "not" is an operator of one part
  unfoldable pub node_of : ℕ → Line → Node
  node_of left x =
      cond (eqb x.kind 20) (Operator x.a x.next left)
      (cond (eqb x.kind 21) (Operator x.a x.next left)
      (cond (eqb x.kind 22) (Operator 1 x.next left)
      (cond (eqb x.kind 23) (Item x.next left)
      (cond (eqb x.kind 24) (Item x.next left)
      (cond (eqb x.kind 25) (Item x.next left)
      (cond (eqb x.kind 26) (Item x.next left)
      (cond (eqb x.kind 27) (item_node (pieces_at G w q true x.b x.next left))
      (Node.Refused (G.refusals + 3)))))))))

  -- a filter's line, where `left` more lines are allowed
  abbrev pub node_by : ℕ → Seen → Node
  node_by left (Seen.Line x) = cond (eqb left 0) (Node.Refused (G.refusals + 3)) (node_of (left - 1) x)
  node_by left Seen.NotAllowed = Node.Refused (G.refusals + 2)
  node_by left Seen.Missing = Node.Refused (G.refusals + 3)

  -- what the line at the position `at` begins
  unfoldable pub node_at : ℕ → ℕ → Node
  node_at at left = node_by left (seen_at G.forms w q at)

  -- the filter at `at`, where `depth` more levels and `left` more lines are allowed
  unfoldable pub filter_at : ℕ → ℕ → ℕ → Progress
  filter_at zero at left = Progress.Refused (misplaced_by G.refusals (seen_at G.forms w q at))
  filter_at (suc depth) at left = by_node (filter_at depth) (node_at at left)
