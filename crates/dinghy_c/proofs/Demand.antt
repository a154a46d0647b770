-- What is promised of what C calls: every export meets its contract, the same as that of the function of its name in `dinghy`, whose `Demand` says what is
-- proved of the verdicts that they give.
use Rattle.dinghy.proofs.Demand as below
use Rattle.dinghy_c.proofs.dinghy_serve.Statement as exchange-entry
use Rattle.dinghy_c.proofs.dinghy_serve.Met as exchange-met
use Rattle.dinghy_c.proofs.dinghy_serve_form.Statement as exchange-form-entry
use Rattle.dinghy_c.proofs.dinghy_serve_form.Met as exchange-form-met
use Rattle.dinghy_c.proofs.dinghy_serve_panel.Statement as panel-entry
use Rattle.dinghy_c.proofs.dinghy_serve_panel.Met as panel-met
use Rattle.dinghy_c.proofs.dinghy_serve_panel_form.Statement as panel-form-entry
use Rattle.dinghy_c.proofs.dinghy_serve_panel_form.Met as panel-form-met
use Rattle.dinghy_c.proofs.dinghy_widen.Statement as widen-entry
use Rattle.dinghy_c.proofs.dinghy_widen.Met as widen-met
use Rattle.dinghy_c.proofs.dinghy_narrow.Statement as narrow-entry
use Rattle.dinghy_c.proofs.dinghy_narrow.Met as narrow-met

pub record Demand (M : Type 1) : Type 2 where
  pub exchange-meets : exchange-entry.statement M
  pub exchange-form-meets : exchange-form-entry.statement M
  pub panel-meets : panel-entry.statement M
  pub panel-form-meets : panel-form-entry.statement M
  pub widen-meets : widen-entry.statement M
  pub narrow-meets : narrow-entry.statement M
  -- demand 3 and the rest, of what they call
  pub called : below.Demand M

pub demand : {M : Type 1} → Demand M
demand {M} = record {
  exchange-meets = exchange-met.met {M = M};
  exchange-form-meets = exchange-form-met.met {M = M};
  panel-meets = panel-met.met {M = M};
  panel-form-meets = panel-form-met.met {M = M};
  widen-meets = widen-met.met {M = M};
  narrow-meets = narrow-met.met {M = M};
  called = below.demand {M = M};
}
