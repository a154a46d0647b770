-- Laws of `Item`: what lines that were taken tell, and that the item is the one which the rules give.
use Rattle.std.specs.Prelude.{ℕ, ◌+◌, ◌≤◌, ◌<◌, ◌≡◌, List, length, Result, Ok}
use Rattle.std.proofs.Common.{sym, ap, ◌∙◌, subst, arith}
use Rattle.std.specs.Borrow.{Bor}
use Rattle.rules.specs.Sheet.{Bytes, Sheet}
use Rattle.rules.specs.Name.{Schema}
use Rattle.rules.specs.Judge.{Verdict, Grammar}
use Rattle.rules.specs.Permission.{Item, item, permission_grammar}
use Rattle.rules.specs.Places.{lines_at, parts_of}
use Rattle.rules.specs.declared.Format.{Format}
use Rattle.rules.specs.Refusals.{refusal_number}
use Rattle.rules.specs.declared.refusals.Refusal.{Refusal}
use Rattle.sheet_due.specs.Lines.{reached_at, after_due, after_group}
use Rattle.sheet_due.specs.Laws.Lines.{after, due-is, group-is, first-parts, Took, took, took-columns, took-further, TookGroup, took-group, followers, name-length}
use Rattle.rules.proofs.Laws.Refusals.{refusal-some}
use Rattle.sheet_due.specs.Laws.Outcomes.{due-stays, group-stays}
use Rattle.sheet_due.specs.Outcomes.{Due, Group, Reached, Gives}
use Rattle.sheet_reader.specs.Advances.{Advance, Reads, reader_at, due_advance, group_advance}
use Rattle.sheet_reader.specs.declared.Reader.{Reader}
use Rattle.sheet_reader.specs.declared.Advance as Code
use Rattle.permission_item.specs.Item.{head_at, base_at, user_at, target_at, mask_at, item_refusal, item_lines, item_of}
use Rattle.permission_item.specs.Laws.Bounds.{head-bounds, base-bounds, user-bounds, target-bounds, mask-bounds}
use Rattle.permission_item.specs.declared.ItemLines.{ItemLines}

-- what lines that were taken tell
pub record TookItem (f : Format) (p : Bytes) (i : ItemLines) : Type 0 where
  pub precedence : i.head.a ≤ 255
  pub level : i.head.b ≤ 2
  pub grants : i.head.c ≤ 1
  pub below : i.base.a ≤ 1
  pub base-few : i.base.b ≤ 8
  pub base-count : length (parts_of i.base.b (lines_at f.width p i.base.next)) ≡ i.base.b
  pub base-within : i.base.next ≤ length p
  pub who : i.user.a ≤ 3
  pub user-few : i.user.b ≤ 8
  pub user-count : length (parts_of i.user.b (lines_at f.width p i.user.next)) ≡ i.user.b
  pub user-within : i.user.next ≤ length p
  pub what : i.target.a ≤ 5
  pub type : i.target.b ≤ f.top
  pub value-length : i.target.length ≤ 64
  pub value-within : i.target.place + i.target.length ≤ length p
  pub permissions : (1 ≤ i.mask.a) × (i.mask.a ≤ 63)

-- the lines as a reader goes through them, each with the refusal of the one before
pub lines_are : (f : Format) (s : Bor (List ℕ)) (S : Schema) (at : ℕ) {r : Reader} {x y z t m : Advance} → let G = permission_grammar f.top S in let w = f.width in
    r ≡ reader_at s at → x ≡ due_advance G w r 0 4 → y ≡ group_advance G w x.rest x.refusal 5 9 → z ≡ group_advance G w y.rest y.refusal 6 9
    → t ≡ due_advance G w z.rest z.refusal 7 → m ≡ due_advance G w t.rest t.refusal 8
    → (m.refusal ≡ item_refusal f s.now S at) × (record { head = x.line; base = y.line; user = z.line; target = t.line; mask = m.line } ≡ item_lines f s.now S at)
unfolding item_refusal item_lines
lines_are f s S at er ex ey ez et em = (rw (em, et, ez, ey, ex, er), rw (em, et, ez, ey, ex, er))

module _ (f : Format) (p : Bytes) (S : Schema) (at : ℕ) where
  abbrev G : Grammar
  G = permission_grammar f.top S

  abbrev w : ℕ
  w = f.width

  abbrev x : Due
  x = head_at f p S at

  abbrev y : Group
  y = base_at f p S at

  abbrev z : Group
  z = user_at f p S at

  abbrev t : Due
  t = target_at f p S at

  abbrev m : Due
  m = mask_at f p S at

  -- an item that is due
  pub item-is : {A : Type 0} (next : Item → Sheet → Verdict A) → let i = item_lines f p S at in
      item f.top S (lines_at w p at) next ≡ after (item_refusal f p S at) (next (item_of w p i) (lines_at w p i.mask.next))
  unfolding item_refusal item_lines item item_of
  item-is next =
      due-is G w p (reached_at at) 4 _
      ∙ group-is G w p (after_due x) 5 9 _
      ∙ group-is G w p (after_group y) 6 9 _
      ∙ due-is G w p (after_group z) 7 _
      ∙ due-is G w p (after_due t) 8 _
      ∙ rw (first-parts y.line.b (lines_at w p y.line.next), first-parts z.line.b (lines_at w p z.line.next))

  -- the first refusal is the item's
  module _ (r : Refusal) where
    pub mask-refused : refusal_number r ≡ m.refusal → refusal_number r ≡ item_refusal f p S at
    unfolding item_refusal
    mask-refused e = e

    pub target-refused : refusal_number r ≡ t.refusal → refusal_number r ≡ item_refusal f p S at
    target-refused e = mask-refused (e ∙ sym (due-stays G w p (after_due t) 8 (λ n. refusal-some r (e ∙ n))))

    pub user-refused : refusal_number r ≡ z.refusal → refusal_number r ≡ item_refusal f p S at
    user-refused e = target-refused (e ∙ sym (due-stays G w p (after_group z) 7 (λ n. refusal-some r (e ∙ n))))

    pub base-refused : refusal_number r ≡ y.refusal → refusal_number r ≡ item_refusal f p S at
    base-refused e = user-refused (e ∙ sym (group-stays G w p (after_group y) 6 9 (λ n. refusal-some r (e ∙ n))))

    pub head-refused : refusal_number r ≡ x.refusal → refusal_number r ≡ item_refusal f p S at
    head-refused e = base-refused (e ∙ sym (group-stays G w p (after_due x) 5 9 (λ n. refusal-some r (e ∙ n))))

  -- all lines were taken
  module _ (h : item_refusal f p S at ≡ 0) where
    took-m : Took G w p (after_due t) 8 m.line
    unfolding item_refusal
    took-m = took G w p (after_due t) 8 h

    took-t : Took G w p (after_group z) 7 t.line
    took-t = took G w p (after_group z) 7 took-m.clear

    took-z : TookGroup G w p (after_group y) 6 z
    took-z = took-group G w p (after_group y) 6 9 took-t.clear

    took-y : TookGroup G w p (after_due x) 5 y
    took-y = took-group G w p (after_due x) 5 9 took-z.head.clear

    took-x : Took G w p (reached_at at) 4 x.line
    took-x = took G w p (reached_at at) 4 took-y.head.clear

    -- the parts of a name that was taken
    parts-count : {r : Reached} {k : ℕ} (g : Group) → TookGroup G w p r k g → length (parts_of g.line.b (lines_at w p g.line.next)) ≡ g.line.b
    parts-count g c = sym (ap length (first-parts g.line.b (lines_at w p g.line.next))) ∙ name-length (followers w p g) ∙ c.count

    pub took-item : TookItem f p (item_lines f p S at)
    unfolding item_lines
    took-item =
        let hx = head-bounds _ _ _ _ _ (took-columns took-x) in
        let hy = base-bounds _ _ _ _ _ (took-columns took-y.head) in
        let hz = user-bounds _ _ _ _ _ (took-columns took-z.head) in
        let ht = target-bounds _ _ _ _ _ (took-columns took-t) in
        let v = took-t.stands.fits in
        record {
          precedence = hx.0;
          level = hx.1;
          grants = hx.2;
          below = hy.0;
          base-few = hy.1;
          base-count = parts-count y took-y;
          base-within = took-y.head.stands.fits.within;
          who = hz.0;
          user-few = hz.1;
          user-count = parts-count z took-z;
          user-within = took-z.head.stands.fits.within;
          what = ht.0;
          type = ht.1;
          value-length = v.short;
          value-within = omega (arith, v.next, v.within);
          permissions = mask-bounds _ _ _ _ _ (took-columns took-m);
        }

    -- the item ends further on, within the sheet
    pub item-further : at < (item_lines f p S at).mask.next
    unfolding item_lines
    item-further =
        omega (arith, took-further took-x, took-further took-y.head, took-y.further, took-further took-z.head, took-z.further, took-further took-t, took-further took-m)

    pub item-within : (item_lines f p S at).mask.next ≤ length p
    unfolding item_lines
    item-within = took-m.stands.fits.within

-- the lines as a reader goes through them
module _ (f : Format) (s : Bor (List ℕ)) (S : Schema) (at : ℕ) where
  -- the reader after a line, and after a group
  abbrev pub past_due : Due → Advance
  past_due d = record { refusal = d.refusal; line = d.line; rest = reader_at s d.line.next }

  abbrev pub past_group : Group → Advance
  past_group g = record { refusal = g.refusal; line = g.line; rest = reader_at s g.next }

  pub head-read : (R : Result Code.Advance Refusal) {r : Reader} → r ≡ reader_at s at → Reads R (due_advance (G f s.now S at) (w f s.now S at) r 0 4) → Reads R (past_due (head_at f s.now S at))
  head-read R e q = subst (λ (r : Reader). Reads R (due_advance (G f s.now S at) (w f s.now S at) r 0 4)) e q

  pub base-read : (R : Result Code.Advance Refusal) (x : Code.Advance) → Reads (Ok x) (past_due (head_at f s.now S at))
      → Reads R (group_advance (G f s.now S at) (w f s.now S at) x.rest 0 5 9) → Reads R (past_group (base_at f s.now S at))
  base-read R x h q = rw h.0 (rw h.1 at q)

  pub user-read : (R : Result Code.Advance Refusal) (y : Code.Advance) → Reads (Ok y) (past_group (base_at f s.now S at))
      → Reads R (group_advance (G f s.now S at) (w f s.now S at) y.rest 0 6 9) → Reads R (past_group (user_at f s.now S at))
  user-read R y h q = rw h.0 (rw h.1 at q)

  pub target-read : (R : Result Code.Advance Refusal) (z : Code.Advance) → Reads (Ok z) (past_group (user_at f s.now S at))
      → Reads R (due_advance (G f s.now S at) (w f s.now S at) z.rest 0 7) → Reads R (past_due (target_at f s.now S at))
  target-read R z h q = rw h.0 (rw h.1 at q)

  pub mask-read : (R : Result Code.Advance Refusal) (t : Code.Advance) → Reads (Ok t) (past_due (target_at f s.now S at))
      → Reads R (due_advance (G f s.now S at) (w f s.now S at) t.rest 0 8) → Reads R (past_due (mask_at f s.now S at))
  mask-read R t h q = rw h.0 (rw h.1 at q)

  -- all were taken
  pub lines-read : (x y z t m : Code.Advance) → Reads (Ok x) (past_due (head_at f s.now S at)) → Reads (Ok y) (past_group (base_at f s.now S at))
      → Reads (Ok z) (past_group (user_at f s.now S at)) → Reads (Ok t) (past_due (target_at f s.now S at)) → Reads (Ok m) (past_due (mask_at f s.now S at))
      → Gives {A = ItemLines} (Ok (record { head = x.line; base = y.line; user = z.line; target = t.line; mask = m.line })) (item_refusal f s.now S at) (item_lines f s.now S at)
  unfolding item_refusal item_lines
  lines-read x y z t m hx hy hz ht hm = (hm.0, rw (hx.1, hy.1, hz.1, ht.1, hm.1))
