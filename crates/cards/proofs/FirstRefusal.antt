-- The reader's answer refuses by the first check that fails, at its first place, and takes what passes all. Assumes nothing.
use Rattle.std.proofs.Common.{◌≡◌, ℕ, zero, suc, ◌<◌, ◌⊎◌, List, [], ◌∷◌, Some, None, Option, sym, refl, ap, ◌∙◌, subst, inl, inr, arith}
use Rattle.std.proofs.lemmas.Bool.{cases_order, cases_eq}
use Rattle.cards.specs.Faults.{Check, bad_trump, bad_lead, no_room, cut_short, bad_card, bad_share, bad_suit, order, number, Fault, FirstOf}
use Rattle.cards.specs.Reading.{Right, RightOf, refuses, found, run_by, checks, reading}
use Rattle.cards.specs.declared.room.Room.{Room}
use Rattle.cards.proofs.Finds.{Finds}
use Rattle.cards.proofs.CheckFaults.{finds_faults}

-- the check of an order
at_order : ℕ → Check
at_order zero = bad_trump
at_order (suc zero) = bad_lead
at_order (suc (suc zero)) = no_room
at_order (suc (suc (suc zero))) = cut_short
at_order (suc (suc (suc (suc zero)))) = bad_card
at_order (suc (suc (suc (suc (suc zero))))) = bad_share
at_order (suc (suc (suc (suc (suc (suc n)))))) = bad_suit

order_back : (k : Check) → at_order (order k) ≡ k
unfolding at_order
order_back bad_trump = refl
order_back bad_lead = refl
order_back no_room = refl
order_back cut_short = refl
order_back bad_card = refl
order_back bad_share = refl
order_back bad_suit = refl

same_from_order : (j k : Check) → order j ≡ order k → j ≡ k
same_from_order j k e = sym (order_back j) ∙ ap at_order e ∙ order_back k

order_below : (k : Check) → order k < 7
order_below bad_trump = omega arith
order_below bad_lead = omega arith
order_below no_room = omega arith
order_below cut_short = omega arith
order_below bad_card = omega arith
order_below bad_share = omega arith
order_below bad_suit = omega arith

-- these are the checks of order m and later, in order
abbrev Row : ℕ → List Check → Type 0
Row m [] = m ≡ 7
Row m (k ∷ ks) = (order k ≡ m) × Row (suc m) ks

cases_found : (o : Option ℕ) → (o ≡ None) ⊎ ((p : ℕ) × (o ≡ Some p))
cases_found None = inl refl
cases_found (Some p) = inr (p, refl)

-- checks that each find the first place of their faults F
module _ (bs : List ℕ) (F : Check → ℕ → Type 0) (find : Check → Option ℕ) (finds : (k : Check) → Finds (F k) (find k)) where
  -- no check of order below m fails
  abbrev Clean : ℕ → Type 0
  Clean m = (j : Check) (q : ℕ) → order j < m → F j q → ⊥

  taken_right : Clean 7 → RightOf F bs (run_by find bs [])
  taken_right clean = record {
    refused = λ n p e. absurd (cc);
    refuses_first = λ k p f. absurd (clean k p (order_below k) f.here);
    taken = λ t size e k p. clean k p (order_below k);
    takes = λ f. refl;
  }

  -- a first refusal is the only one
  first_once : (j k : Check) (p q : ℕ) → FirstOf F j p → FirstOf F k q → refuses (number j) p ≡ refuses (number k) q
  first_once j k p q f g = grind (arith, cases_order (order j) (order k), cases_order p q, same_from_order j k)

  refused_right : (k : Check) (p : ℕ) → FirstOf F k p → RightOf F bs (refuses (number k) p)
  refused_right k p f = record {
    refused = λ n q e. (k, cc, subst (λ (x : ℕ). FirstOf F k x) (let s : p ≡ q = cc in s) f);
    refuses_first = λ j q g. first_once k j p q f g;
    taken = λ t size e. absurd (cc);
    takes = λ clean. absurd (clean k p f.here);
  }

  run_right : (ks : List Check) (m : ℕ) → Row m ks → Clean m → RightOf F bs (run_by find bs ks)
  run_right [] m row clean = taken_right (subst Clean row clean)
  run_right (k ∷ ks) m row clean = elim (cases_found (find k)) [
    | inl e ↦
        let more : Clean (suc m) = λ j q l h. elim (cases_eq (order j) m) [
          | inl s ↦ (finds k).none e q (subst (λ (i : Check). F i q) (same_from_order j k (s ∙ sym row.0)) h)
          | inr s ↦ clean j q (omega arith) h
        ] in
        rw e (run_right ks (suc m) row.1 more)
    | inr h ↦
        let f : FirstOf F k h.0 = record {
          here = (finds k).here h.0 h.1;
          before = (finds k).before h.0 h.1;
          earlier = λ j q l. clean j q (omega arith);
        } in
        rw h.1 (refused_right k h.0 f)
  ]

pub reading_right : (n : ℕ) (bs : List ℕ) (room : Room) → Right n bs room (reading n bs room)
reading_right n bs room =
    run_right bs (Fault n bs room) (found n bs room) (finds_faults n bs room) checks 0 (refl, (refl, (refl, (refl, (refl, (refl, (refl, refl))))))) (λ j q l. absurd (omega arith))
