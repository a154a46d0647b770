-- Laws of results: a refusal's number is never 0, and lines that are due come to the refusal of the first that was refused.
use Prim.Native.Nat.{ℕ, zero, suc, ◌+◌, ◌-◌, ◌<◌}
use Rattle.std.specs.Prelude.{◌≡◌, Ok, Err}
use Rattle.std.proofs.Math.Path.{refl, ap}
use Rattle.std.proofs.Common.{sym, ◌∙◌, ne_eqb, arith}
use Rattle.rules.specs.Sheet.{Bytes}
use Rattle.rules.specs.Judge.{Grammar}
use Rattle.rules.proofs.Laws.Refusals.{refusal-some}
use Rattle.rules.specs.Refusals.{refusal_number}
use Rattle.rules.specs.declared.refusals.Refusal.{Refusal}
use Rattle.sheet_line.specs.declared.Line.{Line}
use Rattle.sheet_due.specs.Outcomes.{Due, Reached, Group, Gives}
use Rattle.sheet_due.specs.declared.Group as Found
use Rattle.sheet_due.specs.Lines.{reached_at, reached_in, after_due, after_group, due_at, lines_due, group_at}
use Rattle.sheet_due.specs.Laws.Lines.{lines-on}

-- the position after a line that was taken
pub after-taken : (d : Due) {x : Line} → d.refusal ≡ 0 → x ≡ d.line → after_due d ≡ reached_at x.next
after-taken d z e = rw (z, e)

-- the position after a group that was taken
pub after-grouped : (g : Group) (x : Found.Group) → g.refusal ≡ 0 → x ≡ record { line = g.line; next = g.next } → after_group g ≡ reached_at x.next
after-grouped g x z e = rw (z, e)

module _ (G : Grammar) (w : ℕ) (s : Bytes) where
  -- after a refusal no line is due
  pub due-stays : (r : Reached) (k : ℕ) → (r.refusal ≡ 0 → ⊥) → (due_at G w s r k).refusal ≡ r.refusal
  unfolding due_at
  due-stays r k n = rw (ne_eqb r.refusal 0 n)

  -- a refusal that came before is handed on
  pub due-handed : (r : Refusal) (k : ℕ) → refusal_number r ≡ (due_at G w s (reached_in (Err r)) k).refusal
  due-handed r k = sym (due-stays (reached_in (Err r)) k (refusal-some r))

  -- where it came from does not matter then
  pub due-alike : (r t : Reached) (k : ℕ) → r.refusal ≡ t.refusal → (r.refusal ≡ 0 → ⊥) → due_at G w s r k ≡ due_at G w s t k
  unfolding due_at
  due-alike r t k e n = rw (e, ne_eqb t.refusal 0 (λ z. n (e ∙ z)))

  module _ (k : ℕ) where
    pub lines-stay : (n : ℕ) (r : Reached) → (r.refusal ≡ 0 → ⊥) → (lines_due G w s k n r).refusal ≡ r.refusal
    unfolding lines_due
    lines-stay zero r h = refl
    lines-stay (suc n) r h = let e = due-stays r k h in lines-stay n (after_due (due_at G w s r k)) (λ z. h (sym e ∙ z)) ∙ e

    pub lines-handed : (n : ℕ) (r : Refusal) → refusal_number r ≡ (lines_due G w s k n (reached_in (Err r))).refusal
    lines-handed n r = sym (lines-stay n (reached_in (Err r)) (refusal-some r))

    -- line `i` of `n` is taken
    pub lines-taken : (at n i : ℕ) → i < n → (x : Line) → let d = due_at G w s (reached_at at) k in d.refusal ≡ 0 → x ≡ d.line
        → lines_due G w s k (n - i) (reached_at at) ≡ lines_due G w s k (n - (i + 1)) (reached_at x.next)
    lines-taken at n i h x z e =
        let m : (n - i) - 1 ≡ n - (i + 1) = omega arith in
        rw (← m) (lines-on G w s k (reached_at at) (n - i) (omega arith) refl (sym (after-taken (due_at G w s (reached_at at) k) z e)))

    -- it is refused
    pub lines-refused : (at n i : ℕ) → i < n → (r : Refusal) → refusal_number r ≡ (due_at G w s (reached_at at) k).refusal
        → refusal_number r ≡ (lines_due G w s k (n - i) (reached_at at)).refusal
    lines-refused at n i h r e =
        let d = due_at G w s (reached_at at) k in
        rw (lines-on G w s k (reached_at at) (n - i) (omega arith) refl refl) (e ∙ sym (lines-stay ((n - i) - 1) (after_due d) (λ z. refusal-some r (e ∙ z))))

  pub group-stays : (r : Reached) (k j : ℕ) → (r.refusal ≡ 0 → ⊥) → (group_at G w s r k j).refusal ≡ r.refusal
  unfolding group_at
  group-stays r k j n = let e = due-stays r k n in lines-stay j (due_at G w s r k).line.b (after_due (due_at G w s r k)) (λ z. n (sym e ∙ z)) ∙ e

  pub group-alike : (r t : Reached) (k j : ℕ) → r.refusal ≡ t.refusal → (r.refusal ≡ 0 → ⊥) → group_at G w s r k j ≡ group_at G w s t k j
  unfolding group_at
  group-alike r t k j e n = rw (due-alike r t k e n)

  module _ (from : Reached) (k j : ℕ) where
    -- a group's line is refused
    pub group-refused : (r : Refusal) → refusal_number r ≡ (due_at G w s from k).refusal → refusal_number r ≡ (group_at G w s from k j).refusal
    unfolding group_at
    group-refused r e = let d = due_at G w s from k in e ∙ sym (lines-stay j d.line.b (after_due d) (λ z. refusal-some r (e ∙ z)))

    module _ {x : Line} (z : (due_at G w s from k).refusal ≡ 0) (e : x ≡ (due_at G w s from k).line) where
      -- the lines where the group's line was taken
      followed : lines_due G w s j x.b (reached_at x.next) ≡ lines_due G w s j (due_at G w s from k).line.b (after_due (due_at G w s from k))
      followed = rw (after-taken (due_at G w s from k) z e, e)

      -- one of the lines that it counts is refused
      pub group-lines-refused : (r : Refusal) → refusal_number r ≡ (lines_due G w s j x.b (reached_at x.next)).refusal → refusal_number r ≡ (group_at G w s from k j).refusal
      unfolding group_at
      group-lines-refused r h = h ∙ ap (λ (r : Reached). r.refusal) followed

      -- all are taken
      pub group-taken : {m : ℕ} → (lines_due G w s j x.b (reached_at x.next)).refusal ≡ 0 → m ≡ (lines_due G w s j x.b (reached_at x.next)).next
          → let g = group_at G w s from k j in Gives {A = Found.Group} (Ok (record { line = x; next = m })) g.refusal (record { line = g.line; next = g.next })
      unfolding group_at
      group-taken h n = rw (← followed, h, n, e) (refl, refl)
