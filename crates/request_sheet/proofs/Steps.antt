-- The sheet by its lines, each where the one before it was taken, or its first refusal.
use Rattle.std.specs.Prelude.{ℕ, ◌≡◌, ◌≤◌, Err, length}
use Rattle.std.proofs.Common.{sym, ap, ◌∙◌, le-ltb, eq-eqb, ne_eqb}
use Rattle.rules.specs.Sheet.{Bytes}
use Rattle.rules.specs.Judge.{Grammar}
use Rattle.rules.specs.Refusals.{refusal_number}
use Rattle.rules.specs.declared.refusals.Refusal.{Refusal}
use Rattle.sheet_due.specs.Outcomes.{Group}
use Rattle.sheet_due.specs.Lines.{seen_at, reached_at, after_group, group_at}
use Rattle.rules.proofs.Laws.Refusals.{refusal-some}
use Rattle.sheet_due.specs.Laws.Outcomes.{group-stays, after-grouped}
use Rattle.sheet_due.specs.declared.Group as Taken
use Rattle.request_operation.specs.Operations.{body_at}
use Rattle.request_operation.specs.declared.Body.{Body}
use Rattle.request_sheet.specs.Whole.{end_by, with_body, requester_at, base_at, asked_of}

module _ (G : Grammar) (w : ℕ) (q : Bytes) (l : length q ≤ 8192) where
  abbrev R : Group
  R = requester_at G w q

  abbrev B : Group
  B = base_at G w q

  by-base : (r : Refusal) → refusal_number r ≡ B.refusal → Err (refusal_number r) ≡ asked_of G w q
  unfolding asked_of
  by-base r e = rw (le-ltb 8192 (length q) l, ne_eqb B.refusal 0 (λ z. refusal-some r (e ∙ z)), e)

  pub requester-refused : (r : Refusal) → refusal_number r ≡ R.refusal → Err (refusal_number r) ≡ asked_of G w q
  requester-refused r e = by-base r (e ∙ sym (group-stays G w q (after_group R) 11 9 (λ z. refusal-some r (e ∙ z))))

  module _ (x : Taken.Group) (z : R.refusal ≡ 0) (e : x ≡ record { line = R.line; next = R.next }) where
    -- the base, where it is due
    base-is : group_at G w q (reached_at x.next) 11 9 ≡ B
    base-is = rw (after-grouped R x z e)

    pub base-refused : (r : Refusal) → refusal_number r ≡ (group_at G w q (reached_at x.next) 11 9).refusal → Err (refusal_number r) ≡ asked_of G w q
    base-refused r h = by-base r (h ∙ ap (λ (g : Group). g.refusal) base-is)

    module _ (y : Taken.Group) (u : (group_at G w q (reached_at x.next) 11 9).refusal ≡ 0)
        (h : y ≡ (let g = group_at G w q (reached_at x.next) 11 9 in record { line = g.line; next = g.next })) where
      -- requester and base were taken
      body-is : with_body G w q R.line B.line (body_at G w q B.next B.line.a) ≡ asked_of G w q
      unfolding asked_of
      body-is = let v : B.refusal ≡ 0 = rw (← base-is) u in rw (le-ltb 8192 (length q) l, eq-eqb B.refusal 0 v)

      pub body-refused : (r : Refusal) → refusal_number r ≡ (body_at G w q y.next y.line.a).refusal → Err (refusal_number r) ≡ asked_of G w q
      unfolding with_body
      body-refused r i =
          let j : refusal_number r ≡ (body_at G w q B.next B.line.a).refusal = rw (h, base-is) at i in
          rw (← body-is, ne_eqb (body_at G w q B.next B.line.a).refusal 0 (λ v. refusal-some r (j ∙ v)), j)

      pub body-taken : (b : Body) → (body_at G w q y.next y.line.a).refusal ≡ 0 → b ≡ (body_at G w q y.next y.line.a).body
          → end_by G.refusals x.line y.line b (seen_at G.forms w q b.next) ≡ asked_of G w q
      unfolding with_body
      body-taken b v i =
          let j : (body_at G w q B.next B.line.a).refusal ≡ 0 = rw (h, base-is) at v in
          let k : b ≡ (body_at G w q B.next B.line.a).body = rw (h, base-is) at i in
          let m : y ≡ record { line = B.line; next = B.next } = rw base-is at h in
          rw (← body-is, eq-eqb (body_at G w q B.next B.line.a).refusal 0 j, ← k, e, m)
