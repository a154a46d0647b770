-- Laws of `Reply`: a refusal, an answer, and a reply to the same verdict.
use Rattle.std.specs.Prelude.{ℕ, ◌≡◌, length}
use Rattle.std.proofs.Common.{subst}
use Rattle.rules.specs.Sheet.{Bytes}
use Rattle.rules.specs.Judge.{Verdict, refuse}
use Rattle.answer_reply.specs.declared.Reply.{Reply}
use Rattle.answer_reply.specs.Reply.{reply_of, left_of, Replies}

pub replies-refused : (n : ℕ) (v : Verdict Bytes) (out : Bytes) (r : Reply) → r ≡ record { refusal = n; length = 0 } → v ≡ refuse n → Replies v out r out
unfolding reply_of left_of
replies-refused n v out r q e = record { reply = rw e q; left = rw e }

-- a reply to the same verdict by another word
pub replies-same : {v u : Verdict Bytes} {before after : Bytes} {r : Reply} → v ≡ u → Replies v before r after → Replies u before r after
replies-same {before = before} {after = after} {r = r} e k = subst (λ (x : Verdict Bytes). Replies x before r after) e k
