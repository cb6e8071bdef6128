-- The judgement of a claim. Assumes nothing.
use Rattle.std.proofs.Common.{◌≡◌, ℕ, Bool, true, false, not, List, Decides, Option, sym, refl, ap, ◌∙◌, subst, ap₂}
use Rattle.std.proofs.lemmas.Bool.Decides.{Decides-at}
use Rattle.cards.specs.Table.{Table, pick, deck, Sound}
use Rattle.tricks.specs.Plays.{Worth}
use Rattle.worth.specs.Value.{worth_of}
use Rattle.worth.proofs.ValueLaws.{value_is_worth}
use Rattle.claims.specs.Claims.{Can, Cannot, upheld}
use Rattle.claims.specs.Advice.{advice}
use Rattle.claims.specs.Failing.{failing}
use Rattle.claims.specs.Judging.{own_turn, Answered, replies_below, Judging, upholds, fails_by, replies, judging}
use Rattle.claims.specs.Judged.{is_upheld, worth_told}
use Rattle.claims.proofs.ClaimLaws.{upheld_is_can, refused_is_cannot}

module _ (side : Bool) (n k : ℕ) (t : Table) where
  -- by whether the claim is upheld and whose turn it is
  by_tests : Bool → Bool → Judging
  by_tests u own = pick u (upholds (worth_of t) (advice t)) (pick own (replies (worth_of t) (replies_below side n k t deck)) (fails_by (worth_of t) (failing side n k t)))

  judging_by : (u own : Bool) → u ≡ upheld side n k (worth_of t) → own ≡ own_turn side t → judging side n k t ≡ by_tests u own
  unfolding judging by_tests
  judging_by u own e f = sym (ap₂ by_tests e f)

  module _ (left w : ℕ) (same : left ≡ n) (worth : w ≡ worth_of t) where
    test_is : upheld side left k w ≡ upheld side n k (worth_of t)
    test_is = ap₂ (λ (i v : ℕ). upheld side i k v) same worth

    pub judged_upheld : (card : Option ℕ) → upheld side left k w ≡ true → card ≡ advice t → upholds w card ≡ judging side n k t
    unfolding by_tests
    judged_upheld card e f = ap₂ upholds worth f ∙ sym (judging_by true (own_turn side t) (sym e ∙ test_is) refl)

    pub judged_replies : (row : List Answered) → upheld side left k w ≡ false → own_turn side t ≡ true → row ≡ replies_below side n k t deck → replies w row ≡ judging side n k t
    unfolding by_tests
    judged_replies row e o f = ap₂ replies worth f ∙ sym (judging_by false true (sym e ∙ test_is) (sym o))

    pub judged_fails : (card : Option ℕ) → upheld side left k w ≡ false → own_turn side t ≡ false → card ≡ failing side n k t → fails_by w card ≡ judging side n k t
    unfolding by_tests
    judged_fails card e o f = ap₂ fails_by worth f ∙ sym (judging_by false false (sym e ∙ test_is) (sym o))

  -- it upholds what is upheld, and tells the worth
  upheld_by : (u own : Bool) → is_upheld (by_tests u own) ≡ u
  unfolding by_tests
  upheld_by true own = refl
  upheld_by false true = refl
  upheld_by false false = refl

  worth_by_tests : (u own : Bool) → worth_told (by_tests u own) ≡ worth_of t
  unfolding by_tests
  worth_by_tests true own = refl
  worth_by_tests false true = refl
  worth_by_tests false false = refl

  module _ (j : Judging) (is : j ≡ judging side n k t) (sound : Sound t n) where
    tests_are : j ≡ by_tests (upheld side n k (worth_of t)) (own_turn side t)
    tests_are = is ∙ judging_by _ _ refl refl

    upholds_is : is_upheld j ≡ upheld side n k (worth_of t)
    upholds_is = ap is_upheld tests_are ∙ upheld_by (upheld side n k (worth_of t)) (own_turn side t)

    pub judged_can : Decides (is_upheld j) (Can side n k t)
    judged_can = Decides-at _ _ upholds_is (upheld_is_can t n sound side k)

    pub judged_cannot : Decides (not (is_upheld j)) (Cannot side n k t)
    judged_cannot = Decides-at _ _ (ap not upholds_is) (refused_is_cannot t n sound side k)

    pub judged_worth : Worth t (worth_told j)
    judged_worth = subst (Worth t) (sym (ap worth_told tests_are ∙ worth_by_tests (upheld side n k (worth_of t)) (own_turn side t))) (value_is_worth t n sound)
