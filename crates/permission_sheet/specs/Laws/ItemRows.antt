-- The two rows of an item note the item which the rules give.
use Rattle.std.specs.Prelude.{ℕ, zero, suc, ◌+◌, ◌*◌, ◌≤◌, ◌<◌, ◌≡◌, refl, Bool, true, false, ◌||◌, cond, eqb, length, get_or}
use Rattle.std.proofs.Math.Path.{sym}
use Rattle.std.proofs.Common.{ap, ◌∙◌, arith, not-suc-le-zero, le_of_suc-le-suc}
use Rattle.std.proofs.Math.ListN.{length-take}
use Rattle.rules.specs.Sheet.{Bytes, bit}
use Rattle.rules.specs.declared.Format.{Format}
use Rattle.rules.specs.Decision.{rank, explicit}
use Rattle.rules.specs.Derived.{weight, score}
use Rattle.permission_sheet.specs.Noted.{Bounded, ItemRow}
use Rattle.permission_weight.specs.Weight.{rank_of, explicit_of, weight_of, score_of}
use Rattle.permission_sheet.specs.Rows.{rights_row, scopes_row}
use Rattle.permission_weight.specs.Laws.{weight-small}
use Rattle.permission_item.specs.Item.{item_of}
use Rattle.permission_item.specs.Laws.Item.{TookItem}
use Rattle.permission_item.specs.declared.ItemLines.{ItemLines}

-- ---- the weight of an item from its numbers

explicit-by : (a b : Bool) → ◌≡◌ {A = ℕ} (cond (a || b) 1 0) (cond a 1 (cond b 1 0))
explicit-by true b = refl
explicit-by false b = refl

weight_is : (w : ℕ) (p : Bytes) (i : ItemLines) → weight (item_of w p i) ≡ weight_of i.head.a i.user.a i.target.a
unfolding weight rank explicit item_of weight_of rank_of explicit_of
weight_is w p i = rw (explicit-by (eqb i.target.a 3) (eqb i.target.a 5))

score-is : (w : ℕ) (p : Bytes) (i : ItemLines) → score (item_of w p i) ≡ score_of (weight_of i.head.a i.user.a i.target.a) i.head.c
unfolding score score_of item_of
score-is w p i = ap (λ (m : ℕ). m * 2 + cond (eqb i.head.c 1) 2 3) (weight_is w p i) ∙ go (eqb i.head.c 1)
  where
    go : (g : Bool) → weight_of i.head.a i.user.a i.target.a * 2 + cond g 2 3 ≡ cond g (weight_of i.head.a i.user.a i.target.a * 2 + 2) (weight_of i.head.a i.user.a i.target.a * 2 + 3)
    go true = refl
    go false = refl

-- ---- the rows

pub rights-long : (p : Bytes) (i : ItemLines) → length (rights_row p i) ≡ 8
unfolding rights_row
rights-long p i = refl

pub scopes_long : (i : ItemLines) → length (scopes_row i) ≡ 7
unfolding scopes_row
scopes_long i = refl

bit_is : (n : ℕ) → n ≤ 1 → n ≡ bit (eqb n 1)
bit_is zero h = refl
bit_is (suc zero) h = refl
bit_is (suc (suc n)) h = absurd (not-suc-le-zero (le_of_suc-le-suc h))

module _ (f : Format) (p : Bytes) (i : ItemLines) (t : TookItem f p i) where
  abbrev w : ℕ
  w = f.width

  bounded : Bounded (item_of w p i)
  unfolding item_of
  bounded = record {
    precedence = t.precedence;
    weight = rw (weight_is w p i) (weight-small i.head.a i.user.a i.target.a t.precedence);
    level = t.level;
    base = omega (arith, t.base-count, t.base-few);
    who = t.who;
    user = omega (arith, t.user-count, t.user-few);
    what = t.what;
    value = simp length-take (omega (arith, t.value-length));
    permissions = t.permissions;
  }

  pub row_is : (right scope : ℕ → ℕ) → ((j : ℕ) → j < 8 → right j ≡ get_or (rights_row p i) j 0) → ((j : ℕ) → j < 7 → scope j ≡ get_or (scopes_row i) j 0)
      → ItemRow w p (item_of w p i) right scope
  unfolding item_of rights_row scopes_row
  row_is right scope r s = record {
    bounded = bounded;
    score = r 0 (omega arith) ∙ sym (score-is w p i);
    digest = r 1 (omega arith);
    grants = r 2 (omega arith) ∙ bit_is i.head.c t.grants;
    what = r 3 (omega arith);
    type = r 4 (omega arith);
    permissions = r 5 (omega arith);
    value = rw (r 6 (omega arith), r 7 (omega arith));
    value-within = rw (r 6 (omega arith), r 7 (omega arith)) t.value-within;
    below = s 0 (omega arith) ∙ bit_is i.base.a t.below;
    base = rw (s 1 (omega arith), s 2 (omega arith));
    base-parts = s 2 (omega arith) ∙ sym t.base-count;
    base-within = rw (s 1 (omega arith)) t.base-within;
    who = s 3 (omega arith);
    user = rw (s 4 (omega arith), s 5 (omega arith));
    user-parts = s 5 (omega arith) ∙ sym t.user-count;
    user-within = rw (s 4 (omega arith)) t.user-within;
    level = s 6 (omega arith);
  }
