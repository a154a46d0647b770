-- What is promised of what runs: every entry meets its contract, that is, a call returns `reply_of` and leaves `left_of` of the verdict that the rules
-- give; and what is proved of these verdicts: demand 3 in either form, what #105 claims of aliases, #109 of moves and of the two forms,
-- and #106 of the order of what a search finds.
use mathlib.Core.Bool.{Bool}
use Rattle.rules.specs.Sheet.{format_of}
use Rattle.rules.specs.Serve.{exchange, panel}
use Rattle.rules.specs.Theorems.{PrintedBack, RoundTrip, MovedAccepted, BackAgain, FormsAlike, ResolvedAlike, LongAbsent, Permuted, InOrder, Stable, SmallestKey}
use Rattle.rules.proofs.Laws.Theorems.{printed-back, round_trip, moved-accepted, back-again, forms-alike, resolved-alike, long-absent, permuted, in_order_lem, stable, smallest-key}
use Rattle.dinghy.specs.Alike.{AnswersAlike, answers-alike}
use Rattle.dinghy.proofs.dinghy_serve.Statement as exchange-entry
use Rattle.dinghy.proofs.dinghy_serve.Met as exchange-met
use Rattle.dinghy.proofs.dinghy_serve_form.Statement as exchange-form-entry
use Rattle.dinghy.proofs.dinghy_serve_form.Met as exchange-form-met
use Rattle.dinghy.proofs.dinghy_serve_panel.Statement as panel-entry
use Rattle.dinghy.proofs.dinghy_serve_panel.Met as panel-met
use Rattle.dinghy.proofs.dinghy_serve_panel_form.Statement as panel-form-entry
use Rattle.dinghy.proofs.dinghy_serve_panel_form.Met as panel-form-met
use Rattle.dinghy.proofs.dinghy_widen.Statement as widen-entry
use Rattle.dinghy.proofs.dinghy_widen.Met as widen-met
use Rattle.dinghy.proofs.dinghy_narrow.Statement as narrow-entry
use Rattle.dinghy.proofs.dinghy_narrow.Met as narrow-met

pub record Demand (M : Type 1) : Type 2 where
  pub exchange-meets : exchange-entry.statement M
  pub exchange-form-meets : exchange-form-entry.statement M
  pub panel-meets : panel-entry.statement M
  pub panel-form-meets : panel-form-entry.statement M
  pub widen-meets : widen-entry.statement M
  pub narrow-meets : narrow-entry.statement M
  -- demand 3
  pub exchange-alike : (wide : Bool) → AnswersAlike (format_of wide) exchange
  pub panel-alike : (wide : Bool) → AnswersAlike (format_of wide) panel
  -- #109
  pub printed-back : PrintedBack
  pub round_trip : RoundTrip
  pub moved-accepted : MovedAccepted
  pub back-again : BackAgain
  pub forms-alike : FormsAlike
  -- #105
  pub resolved-alike : ResolvedAlike
  pub long-absent : LongAbsent
  -- #106
  pub permuted : Permuted
  pub in_order_lem : InOrder
  pub stable : Stable
  pub smallest-key : SmallestKey

pub demand : {M : Type 1} → Demand M
demand {M} = record {
  exchange-meets = exchange-met.met {M = M};
  exchange-form-meets = exchange-form-met.met {M = M};
  panel-meets = panel-met.met {M = M};
  panel-form-meets = panel-form-met.met {M = M};
  widen-meets = widen-met.met {M = M};
  narrow-meets = narrow-met.met {M = M};
  exchange-alike = λ w. answers-alike (format_of w) exchange;
  panel-alike = λ w. answers-alike (format_of w) panel;
  printed-back = printed-back;
  round_trip = round_trip;
  moved-accepted = moved-accepted;
  back-again = back-again;
  forms-alike = forms-alike;
  resolved-alike = resolved-alike;
  long-absent = long-absent;
  permuted = permuted;
  in_order_lem = in_order_lem;
  stable = stable;
  smallest-key = smallest-key;
}
