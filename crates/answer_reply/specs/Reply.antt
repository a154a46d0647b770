-- Document 01, "Who is refused, and why": what is returned and what the lent buffer holds, from a verdict over the answer's bytes.
use Rattle.std.specs.Prelude.{◌++◌, ◌≡◌, length, drop}
use Rattle.rules.specs.Sheet.{Bytes}
use Rattle.rules.specs.Judge.{Verdict, accept, refuse}
use Rattle.answer_reply.specs.declared.Reply.{Reply}

-- "one answer, or one refusal number with length 0"
unfoldable pub reply_of : Verdict Bytes → Reply
reply_of (accept bs) = record { refusal = 0; length = length bs }
reply_of (refuse n) = record { refusal = n; length = 0 }

-- the answer's bytes at the front of the buffer, which is unchanged beyond them and with any refusal
unfoldable pub left_of : Verdict Bytes → Bytes → Bytes
left_of (accept bs) out = bs ++ drop (length bs) out
left_of (refuse n) out = out

-- both: what is returned, and what the buffer holds
pub record Replies (v : Verdict Bytes) (before : Bytes) (r : Reply) (after : Bytes) : Type 0 where
  pub reply : r ≡ reply_of v
  pub left : after ≡ left_of v before
