-- Laws of `Rank`: the loop that makes the scores, and that the items in this order are ranked.
use Rattle.std.specs.Prelude.{ℕ, ◌+◌, ◌-◌, ◌*◌, ◌≤◌, ◌<◌, ◌≡◌, refl, Bool, true, false, cond, List, [], ◌∷◌, ◌++◌, eqb, ltb, length, get_or, set, take, drop}
use Rattle.std.proofs.Common.{sym, ap, ◌∙◌, subst, add-one, arith, take-suc-set, eq-eqb, eqb-true, ltb-false}
use Rattle.std.proofs.lemmas.List.{map-append, length-map}
use Rattle.std.proofs.lemmas.Bool.{eqb-false}
use Rattle.rules.specs.Sheet.{Bytes}
use Rattle.rules.specs.Permission.{Item}
use Rattle.rules.specs.Arrange.{arranged_by}
use Rattle.rules.proofs.Laws.Lists.{any_at, any_found, get_d_map}
use Rattle.rules.specs.Derived.{Each, weight, no_item, score, item_at, Ranked}
use Rattle.rules.proofs.Laws.Each.{each_at}
use Rattle.rules.proofs.Laws.Arrange.{WeakOrder, arranged-length, each-arranged-by, any-arranged, ordered-arranged, ordered_at, highest-first}
use Rattle.permission_sheet.specs.Noted.{Table, SCORE, RIGHTS}
use Rattle.access_order.specs.Pass.{up_to, in_order}
use Rattle.access_order.specs.Laws.Pass.{length-up_to, low-up_to, at-up_to}
use Rattle.access_order.specs.Laws.Order.{length-order, in-order-arranged}
use Rattle.access_items.specs.Rank.{scores_of, weight_order}

-- ---- the scores

abbrev score_in : List ℕ → ℕ → ℕ
score_in rights k = get_or rights (k * RIGHTS + SCORE) 0

length-scores : (rights : List ℕ) (n : ℕ) → length (scores_of rights n) ≡ n
unfolding scores_of
length-scores rights n = length-map (up_to n) (score_in rights) ∙ length-up_to n

score-at : (rights : List ℕ) (n k : ℕ) → k < n → get_or (scores_of rights n) k 0 ≡ score_in rights k
unfolding scores_of
score-at rights n k l = get_d_map (score_in rights) 0 0 (up_to n) k (omega (arith, length-up_to n)) ∙ ap (score_in rights) (at-up_to n k l)

-- one score more
pub scores-more : (rights keys : List ℕ) (k : ℕ) → k < length keys → take k keys ≡ scores_of rights k → take (k + 1) (set keys k (score_in rights k)) ≡ scores_of rights (k + 1)
unfolding scores_of up_to
scores-more rights keys k room h =
    ap (λ (m : ℕ). take m (set keys k (score_in rights k))) (add-one k) ∙ take-suc-set keys k (score_in rights k) room ∙ ap (λ (l : List ℕ). l ++ (score_in rights k ∷ [])) h
    ∙ sym (map-append (score_in rights) (up_to k) (k ∷ [])) ∙ ap (scores_of rights) (sym (add-one k))

score-small : (i : Item) → weight i ≤ 1535 → score i < 4096
unfolding score
score-small i h = go i.grants
  where
    go : (g : Bool) → weight i * 2 + cond g 2 3 < 4096
    go true = omega arith
    go false = omega arith

-- ---- the order

pub length-order_of : (rights : List ℕ) (n : ℕ) → length (weight_order rights n) ≡ n
unfolding weight_order
length-order_of rights n = length-order (scores_of rights n) ∙ length-scores rights n

-- the keys sorted
pub order-of-keys : (rights keys before after : List ℕ) (n : ℕ) → take n keys ≡ scores_of rights n → after ≡ in_order (take (n - 0) keys) ++ drop (length (take (n - 0) keys)) before
    → after ≡ weight_order rights n ++ drop n before
unfolding weight_order
order-of-keys rights keys before after n h e =
    let z : n - 0 ≡ n = omega arith in
    let q : take (n - 0) keys ≡ scores_of rights n = ap (λ (m : ℕ). take m keys) z ∙ h in
    e ∙ ap (λ (l : List ℕ). in_order l ++ drop (length l) before) q ∙ ap (λ (m : ℕ). in_order (scores_of rights n) ++ drop m before) (length-scores rights n)

pub ranked-order : (w : ℕ) (p : Bytes) (is : List Item) (rights scopes : List ℕ) → Table w p is rights scopes → Ranked is (weight_order rights (length is))
unfolding weight_order
ranked-order w p is rights scopes table = subst (Ranked is) (sym arranged) (record { within = within; complete = complete; falling = λ q r l m. falling q r l m (eqb q r) refl })
  where
    n : ℕ
    n = length is

    Low : ℕ → Type 0
    Low k = k < n

    keys : List ℕ
    keys = scores_of rights n

    key : (k : ℕ) → k < n → get_or keys k 0 ≡ score (get_or is k no_item)
    key k l = score-at rights n k l ∙ (table.rows k l).score

    small : (k : ℕ) → k < length keys → get_or keys k 0 < 4096
    small k l =
        let b : k < n = subst (λ (m : ℕ). k < m) (length-scores rights n) l in
        subst (λ (m : ℕ). m < 4096) (sym (key k b)) (score-small (get_or is k no_item) (table.rows k b).bounded.weight)

    before : ℕ → ℕ → Bool
    before a b = ltb (get_or keys b 0) (get_or keys a 0)

    first : WeakOrder before Low
    first = highest-first (λ k. get_or keys k 0) Low

    order : List ℕ
    order = arranged_by before (up_to n)

    arranged : weight_order rights n ≡ order
    arranged = in-order-arranged keys small ∙ ap (λ (m : ℕ). arranged_by before (up_to m)) (length-scores rights n)

    low : Each Low (up_to n)
    low = low-up_to n

    size : length order ≡ n
    size = arranged-length before (up_to n) ∙ length-up_to n

    within : (q : ℕ) → q < n → get_or order q 0 < n
    within q l = each_at Low 0 order (each-arranged-by before Low (up_to n) low) q (omega (arith, size))

    complete : (k : ℕ) → k < n → (q : ℕ) × (q < n) × (get_or order q 0 ≡ k)
    complete k l =
        let t = any_found (eqb k) 0 order (any-arranged before (eqb k) (up_to n) ∙ any_at (eqb k) 0 (up_to n) k (omega (arith, length-up_to n)) (eq-eqb k _ (sym (at-up_to n k l)))) in
        (t.0, subst (λ (m : ℕ). t.0 < m) size t.1, sym (eqb-true k _ t.2))

    falling : (q r : ℕ) → q ≤ r → r < n → (b : Bool) → eqb q r ≡ b → score (item_at is order r) ≤ score (item_at is order q)
    falling q r l m true e = subst (λ (i : ℕ). score (item_at is order i) ≤ score (item_at is order q)) (eqb-true q r e) (omega arith)
    falling q r l m false e =
        let d : q ≡ r → ⊥ = eqb-false q r e in
        let o : get_or keys (get_or order r 0) 0 ≤ get_or keys (get_or order q 0) 0 = ltb-false _ _ (ordered_at before Low first 0 order (ordered-arranged before Low first (up_to n) low) q r (omega arith) (omega (arith, size))) in
        omega (arith, key (get_or order r 0) (within r m), key (get_or order q 0) (within q (omega arith)))
