-- What a card does to a claim. Assumes nothing.
use Rattle.std.proofs.Common.{◌≡◌, ℕ, ◌+◌, ◌-◌, ◌<◌, ◌≤◌, Bool, true, false, not, ◌&&◌, leb, Decides, sym, ap, ◌∙◌, inl, inr, arith}
use Rattle.std.proofs.lemmas.Bool.{both_ways, leb-true, le-leb, and_parts, and_from, and_left, and_right, not_from_true, not_from_false, cases_Bool}
use Rattle.std.proofs.lemmas.Bool.Decides.{nat_tests, Decides-at}
use Rattle.cards.specs.Table.{Table, deck, Sound}
use Rattle.tricks.specs.Rules.{may, after, gains}
use Rattle.tricks.specs.Statements.{left_after}
use Rattle.tricks.proofs.MayLaws.{may_parts}
use Rattle.tricks.proofs.Stays.{keeps_sound}
use Rattle.worth.specs.Value.{worth_of}
use Rattle.tricks.proofs.CardsLeft.{some_trick}
use Rattle.worth.proofs.ValueLaws.{worth_low}
use Rattle.claims.specs.Claims.{Cannot, upheld}
use Rattle.claims.specs.Advice.{worth_by, keeps, advised, Pays}
use Rattle.claims.specs.Failing.{upheld_after, fails, takes_by, FailsIs, RefusedByCard, UpheldStays, RefusedStays, UpheldByAdvice}
use Rattle.claims.proofs.LowestLaws.{lowest_some, lowest_empty}
use Rattle.claims.proofs.CardLaws.{kept, own_card, other_card, some_keeps}
use Rattle.claims.proofs.ClaimLaws.{refused_is_cannot}
use Rattle.claims.proofs.AdviceLaws.{advised_lowest}

-- what is upheld is upheld by what pays more, and what is refused is refused by what pays less
pub upheld_more : (side : Bool) (n k v w : ℕ) → Pays side v w → upheld side n k v ≡ true → upheld side n k w ≡ true
upheld_more true n k v w p e = le-leb k w (omega (arith, leb-true k v e))
upheld_more false n k v w p e = let (a, b) = and_parts _ _ e in and_from _ _ a (le-leb w (n - k) (omega (arith, leb-true v (n - k) b)))

pub refused_less : (side : Bool) (n k v w : ℕ) → Pays side v w → upheld side n k w ≡ false → upheld side n k v ≡ false
refused_less side n k v w p e = elim (cases_Bool (upheld side n k v)) [ inl y ↦ absurd (both_ways _ e (upheld_more side n k v w p y)) | inr y ↦ y ]

-- a card that keeps the worth leaves the claim as it is
pub upheld_kept : (side : Bool) (n k : ℕ) (t : Table) (c : ℕ) → keeps t c ≡ true → upheld_after side n k t c ≡ upheld side n k (worth_of t)
upheld_kept side n k t c y = ap (upheld side n k) (kept t c y).1

-- at the other side's turn a claim that is refused fails by some card, and one that is upheld by none
pub refused_by_card : RefusedByCard
refused_by_card t n s l side k o e =
    let (c, y) = some_keeps t n s l in
    let m = (kept t c y).0 in
    let (d, f, low) = lowest_some (fails side n k t) deck c (may_parts t c m).card (and_from _ _ m (not_from_false _ (upheld_kept side n k t c y ∙ e))) in
    (d, f, low.passes, low.before)

pub upheld_stays : UpheldStays
upheld_stays t n s side k o e = (lowest_empty (fails side n k t) deck none_fails, stays)
  where
    stays : (c : ℕ) → may t c ≡ true → upheld_after side n k t c ≡ true
    stays c m = upheld_more side n k (worth_of t) (worth_by t c) (other_card t n s side o c m) e

    none_fails : (c : ℕ) → fails side n k t c ≡ false
    none_fails c = elim (cases_Bool (may t c)) [ inl m ↦ and_right _ _ (not_from_true _ (stays c m)) | inr m ↦ and_left _ _ m ]

-- at the side's own turn a claim that is refused stays so, and one that is upheld stays so by the advice
pub refused_stays : RefusedStays
refused_stays t n s side k o e c m = refused_less side n k (worth_by t c) (worth_of t) (own_card t n s side o c m) e

pub upheld_by_advice : UpheldByAdvice
upheld_by_advice t n s l side k o e =
    let y = (advised_lowest t n s l).passes in
    ((kept t (advised t) y).0, upheld_kept side n k t (advised t) y ∙ e)

-- the n tricks left are those that a card gains for either side, and those left after it
shared : (t : Table) (n c : ℕ) → 0 < n → (gains t c + takes_by false t c) + left_after t n ≡ n
unfolding gains
shared t n c l = grind arith

-- what is left of a claim is upheld after a card just if the claim is
rest_ours : (k g w : ℕ) → leb (k - g) w ≡ leb k (g + w)
rest_ours k g w = grind (arith, nat_tests)

rest_theirs : (n m k g o w : ℕ) → (g + o) + m ≡ n → w ≤ m → (leb (k - o) m && leb w (m - (k - o))) ≡ (leb k n && leb (g + w) (n - k))
rest_theirs n m k g o w e l = grind (arith, nat_tests)

pub upheld_rest : (t : Table) (n : ℕ) → Sound t n → (side : Bool) (k c : ℕ) → may t c ≡ true →
    upheld side (left_after t n) (k - takes_by side t c) (worth_of (after t c)) ≡ upheld_after side n k t c
upheld_rest t n s true k c m = rest_ours k (gains t c) (worth_of (after t c))
upheld_rest t n s false k c m =
    rest_theirs n (left_after t n) k (gains t c) (takes_by false t c) (worth_of (after t c)) (shared t n c (some_trick t n c s m))
    (worth_low (after t c) (left_after t n) (keeps_sound t n c s m))

-- what fails by the worth fails over whole plays
pub fails_is : FailsIs
fails_is t n s side k c = (λ y. let (m, e) = and_parts _ _ y in (m, (after_it m).0 e), λ (m, f). and_from _ _ m ((after_it m).1 f))
  where
    after_it : may t c ≡ true → Decides (not (upheld_after side n k t c)) (Cannot side (left_after t n) (k - takes_by side t c) (after t c))
    after_it m =
        Decides-at _ _ (ap not (sym (upheld_rest t n s side k c m)))
        (refused_is_cannot (after t c) (left_after t n) (keeps_sound t n c s m) side (k - takes_by side t c))
