-- Laws of `RequestNoted`: what a caller of `judge` has.
use Rattle.std.specs.Prelude.{◌≡◌, Result, Ok, Err}
use Rattle.std.proofs.Common.{subst}
use Rattle.rules.specs.Sheet.{Bytes}
use Rattle.rules.specs.Name.{Schema}
use Rattle.rules.specs.declared.Format.{Format}
use Rattle.rules.specs.Judge.{accept, refuse}
use Rattle.rules.specs.Request.{Request, request_grammar, request_of}
use Rattle.rules.specs.Refusals.{refusal_number}
use Rattle.rules.specs.declared.refusals.Refusal.{Refusal}
use Rattle.request_sheet.specs.declared.Asked.{Asked}
use Rattle.request_sheet.specs.Noted.{RequestJudged, RequestNoted}

module _ (f : Format) (S : Schema) (q : Bytes) (r : Result Asked Refusal) (j : RequestJudged f S q r) where
  -- a refusal is the one that the rules give
  pub judged-refused : (n : Refusal) → r ≡ Err n → request_of f S q ≡ refuse (refusal_number n)
  judged-refused n e = subst (RequestJudged f S q) e j

  -- without one, the request that the rules accept is noted
  pub judged-accepted : (a : Asked) → r ≡ Ok a → (x : Request) × (request_of f S q ≡ accept x) × RequestNoted (request_grammar f.top) f.width q x a
  judged-accepted a e = subst (RequestJudged f S q) e j
