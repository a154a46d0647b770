-- An item of the permission sheet by the numbers and positions of its five lines, each where the one before it ends. That it is what the rules
-- give is proved in `Laws.Item`.
use Rattle.std.specs.Prelude.{ℕ, eqb}
use Rattle.rules.specs.Sheet.{Bytes}
use Rattle.rules.specs.Name.{Schema}
use Rattle.rules.specs.Judge.{Grammar}
use Rattle.rules.specs.Permission.{Item, permission_grammar}
use Rattle.rules.specs.Places.{lines_at, parts_of}
use Rattle.sheet_line.specs.Line.{bytes_of}
use Rattle.rules.specs.declared.Format.{Format}
use Rattle.sheet_due.specs.Lines.{reached_at, after_due, after_group, due_at, group_at}
use Rattle.sheet_due.specs.Outcomes.{Due, Group}
use Rattle.permission_item.specs.declared.ItemLines.{ItemLines}

module _ (f : Format) (p : Bytes) (S : Schema) (at : ℕ) where
  abbrev G : Grammar
  G = permission_grammar f.top S

  abbrev pub head_at : Due
  head_at = due_at G f.width p (reached_at at) 4

  abbrev pub base_at : Group
  base_at = group_at G f.width p (after_due head_at) 5 9

  abbrev pub user_at : Group
  user_at = group_at G f.width p (after_group base_at) 6 9

  abbrev pub target_at : Due
  target_at = due_at G f.width p (after_group user_at) 7

  abbrev pub mask_at : Due
  mask_at = due_at G f.width p (after_due target_at) 8

  -- the refusal number of the item at `at`, 0 where there is none
  unfoldable pub item_refusal : ℕ
  item_refusal = mask_at.refusal

  -- its lines, where there is none
  unfoldable pub item_lines : ItemLines
  item_lines = record { head = head_at.line; base = base_at.line; user = user_at.line; target = target_at.line; mask = mask_at.line }

-- the item of these lines
unfoldable pub item_of : ℕ → Bytes → ItemLines → Item
item_of w p i = record {
  precedence = i.head.a;
  level = i.head.b;
  grants = eqb i.head.c 1;
  below = eqb i.base.a 1;
  base = parts_of i.base.b (lines_at w p i.base.next);
  who = i.user.a;
  user = parts_of i.user.b (lines_at w p i.user.next);
  what = i.target.a;
  type = i.target.b;
  value = bytes_of p i.target;
  permissions = i.mask.a;
}
