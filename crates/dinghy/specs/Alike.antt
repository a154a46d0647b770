-- Demand 3 of two calls: directories that are alike for a requester give that requester the same reply and the same bytes.
use Rattle.std.specs.Prelude.{◌≡◌, refl, length, take, drop}
use Rattle.std.proofs.Common.{sym, ap, ◌∙◌}
use Rattle.std.proofs.Math.Seq.{take-append_seam}
use Rattle.rules.specs.Sheet.{Bytes}
use Rattle.rules.specs.declared.Format.{Format}
use Rattle.rules.specs.Judge.{Verdict, accept, refuse}
use Rattle.rules.specs.Serve.{serve_at}
use Rattle.rules.specs.Shown.{Alike}
use Rattle.rules.specs.declared.Limits.{Limits}
use Rattle.rules.proofs.Secrecy.Demand3.{demand-3}
use Rattle.answer_reply.specs.Reply.{reply_of, left_of}

-- the bytes that a reply tells of do not depend on what the buffer held
told : (v : Verdict Bytes) (one two : Bytes) → take (reply_of v).length (left_of v one) ≡ take (reply_of v).length (left_of v two)
unfolding reply_of left_of
told (accept bs) one two = take-append_seam bs (drop (length bs) one) ∙ sym (take-append_seam bs (drop (length bs) two))
told (refuse n) one two = refl

-- two calls in the form `f` by a program of the limits `k`
module _ (f : Format) (k : Limits) where
  -- with the sheets `d₁` and `d₂` as directory and buffers that hold `one` and `two`
  pub record SameAnswer (d₁ d₂ p q one two : Bytes) : Type 0 where
    -- "the same outcome, .. incompleteness mark and refusal"
    pub reply : reply_of (serve_at f k d₁ p q (length one)) ≡ reply_of (serve_at f k d₂ p q (length two))
    -- "bytes": as many as the reply tells
    pub bytes : take (reply_of (serve_at f k d₁ p q (length one))).length (left_of (serve_at f k d₁ p q (length one)) one)
        ≡ take (reply_of (serve_at f k d₂ p q (length two))).length (left_of (serve_at f k d₂ p q (length two)) two)
    -- buffers that were equal before are equal after, as a whole
    pub buffers : one ≡ two → left_of (serve_at f k d₁ p q (length one)) one ≡ left_of (serve_at f k d₂ p q (length two)) two

  abbrev pub AnswersAlike : Type 0
  AnswersAlike = (d₁ d₂ p q one two : Bytes) → Alike f p q d₁ d₂ → length one ≡ length two → SameAnswer d₁ d₂ p q one two

  pub answers-alike : AnswersAlike
  answers-alike d₁ d₂ p q one two alike e = record {
    reply = ap reply_of same;
    bytes = ap (λ (v : Verdict Bytes). take (reply_of v).length (left_of v one)) same ∙ told (serve_at f k d₂ p q (length two)) one two;
    buffers = λ h. ap (λ (v : Verdict Bytes). left_of v one) same ∙ ap (left_of (serve_at f k d₂ p q (length two))) h;
  }
    where
      same : serve_at f k d₁ p q (length one) ≡ serve_at f k d₂ p q (length two)
      same = demand-3 f k d₁ d₂ p q (length one) alike ∙ ap (serve_at f k d₂ p q) e
