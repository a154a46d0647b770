-- Laws of an answer concluded: its length first, then refusal 31 or the bytes.
use Rattle.std.specs.Prelude.{ℕ, suc, ◌+◌, ◌≤◌, ◌<◌, ◌≡◌, refl, List, [], ◌∷◌, ◌++◌}
use Rattle.std.proofs.Common.{sym, ap, ◌∙◌, subst, arith}
use Rattle.std.proofs.Math.Bool.{true, false}
use Rattle.std.proofs.Math.Dec.{ltb}
use Rattle.std.proofs.Math.ListN.{length}
use borrow.Author.Tests.{lt-ltb, le-ltb}
use Rattle.rules.specs.Sheet.{Bytes, Line, print}
use Rattle.rules.specs.Serve.{fitting}
use Rattle.answer_line.specs.Emit.{Emits}
use Rattle.answer_line.specs.Laws.Emit.{emit-all, put_front}
use Rattle.answer_reply.specs.declared.Reply.{Reply}
use Rattle.answer_reply.specs.Reply.{reply_of, left_of, Replies}

module _ (w : ℕ) (ls : List Line) (out : Bytes) where
  -- the answer does not fit
  pub too_long : (n : ℕ) → n ≡ length (print w ls) → length out < n → Replies (fitting (length out) (print w ls)) out (record { refusal = 31; length = 0 }) out
  unfolding fitting reply_of left_of
  too_long n e h = record { reply = rw t; left = rw t }
    where
      t : ltb (length out) (length (print w ls)) ≡ true
      t = lt-ltb (length out) (length (print w ls)) (omega (arith, h, e))

  -- it fits, and all of it is written
  pub fits_whole : (out' : Bytes) (n : ℕ) → length (print w ls) ≤ length out → Emits w out 0 ls out' n → Replies (fitting (length out) (print w ls)) out (record { refusal = 0; length = n }) out'
  unfolding fitting reply_of left_of
  fits_whole out' n h e = record {
    reply = rw t (ap (λ (m : ℕ). record { refusal = 0; length = m }) (let z : n ≡ 0 + length (print w ls) = e.next in omega arith));
    left = rw t (e.bytes ∙ emit-all w out 0 ls (omega arith) ∙ put_front out (print w ls));
  }
    where
      t : ltb (length out) (length (print w ls)) ≡ false
      t = le-ltb (length out) (length (print w ls)) h

-- what a call on an empty part leaves
front-none : (x d : Bytes) → length x ≡ 0 → x ++ d ≡ d
front-none [] d e = refl
front-none (a ∷ x) d e = absurd (let h : suc (length x) ≡ 0 = e in omega arith)

module _ (w : ℕ) (ls : List Line) (out x : Bytes) (none : length x ≡ 0) (e y : Bytes) (n : ℕ) (first : Emits w e 0 ls y n) where
  total : n ≡ length (print w ls)
  total = let z : n ≡ 0 + length (print w ls) = first.next in omega arith

  pub run-refused : (r : Reply) → length (x ++ out) < n → r ≡ record { refusal = 31; length = 0 } → Replies (fitting (length out) (print w ls)) out r (x ++ out)
  run-refused r h q =
      subst (λ (z : Bytes). Replies (fitting (length out) (print w ls)) out r z) (sym (front-none x out none))
      (subst (λ (t : Reply). Replies (fitting (length out) (print w ls)) out t out) (sym q)
      (too_long w ls out n total (subst (λ (z : Bytes). length z < n) (front-none x out none) h)))

  pub run-answered : (out' : Bytes) (m : ℕ) → n ≤ length (x ++ out) → Emits w (x ++ out) 0 ls out' m → Replies (fitting (length out) (print w ls)) out (record { refusal = 0; length = m }) out'
  run-answered out' m h p =
      fits_whole w ls out out' m (subst (λ (k : ℕ). k ≤ length out) total (subst (λ (z : Bytes). n ≤ length z) (front-none x out none) h))
      (subst (λ (z : Bytes). Emits w z 0 ls out' m) (front-none x out none) p)
