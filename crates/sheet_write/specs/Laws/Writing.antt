-- Lines written one after the other into a buffer: some bytes of them are written, the others are still due.
use Rattle.std.specs.Prelude.{ℕ, ◌+◌, ◌≤◌, ◌≡◌, refl, [], ◌++◌, length}
use Rattle.std.proofs.Common.{sym, ap, ◌∙◌, arith, length-append}
use Rattle.rules.specs.Sheet.{Bytes, Line, line_size, line_bytes}
use Rattle.rules.proofs.Laws.Sheet.{line-length}
use Rattle.rules.specs.Derived.{put_at}
use Rattle.sheet_write.specs.Laws.Put.{put-none, put-length, put-append}

-- of the bytes `all`, which are to stand in the buffer `before` from `at` on, `due` are still to be written into `out` from `to` on
pub record Writing (before : Bytes) (at : ℕ) (all out : Bytes) (to : ℕ) (due : Bytes) : Type 0 where
  pub so_far : put_at out to due ≡ put_at before at all
  pub until : to + length due ≡ at + length all
  pub room : to + length due ≤ length out
  pub same : length out ≡ length before

pub writing_start : (before : Bytes) (at : ℕ) (all : Bytes) → at + length all ≤ length before → Writing before at all before at all
writing_start before at all h = record { so_far = refl; until = refl; room = h; same = refl }

module _ {before : Bytes} {at : ℕ} {all out : Bytes} {to : ℕ} {due : Bytes} (m : Writing before at all out to due) where
  -- a line is due: there is room for it, and once it is written those after it are due
  module _ (w : ℕ) (x : Line) (rest : Bytes) (e : due ≡ line_bytes w x ++ rest) where
    due-length : length due ≡ length (line_bytes w x) + length rest
    due-length = ap length e ∙ length-append (line_bytes w x) rest

    pub writing-room : to + line_size w (length x.bytes) ≤ length out
    writing-room = omega (arith, m.room, due-length, line-length w x)

    pub writing-on : {next : ℕ} {after : Bytes} → next ≡ to + line_size w (length x.bytes) → after ≡ put_at out to (line_bytes w x) → Writing before at all after next rest
    writing-on {next} {after} n p =
        let k : to + length (line_bytes w x) ≡ next = omega (arith, n, line-length w x) in
        let l = due-length in
        let f : to + length (line_bytes w x) ≤ length out = omega (arith, m.room, l) in
        let s : length after ≡ length out = ap length p ∙ put-length out to (line_bytes w x) f in
        record {
          so_far = ap (λ (o : Bytes). put_at o next rest) p ∙ put-append out to (line_bytes w x) rest next (sym k) f ∙ ap (put_at out to) (sym e) ∙ m.so_far;
          until = omega (arith, k, l, m.until);
          room = omega (arith, k, l, s, m.room);
          same = s ∙ m.same;
        }

  -- nothing is due
  pub writing-done : due ≡ [] → (to ≡ at + length all) × (out ≡ put_at before at all)
  writing-done e = let z : length due ≡ 0 = ap length e in (omega (arith, z, m.until), sym (put-none out to) ∙ ap (put_at out to) (sym e) ∙ m.so_far)
