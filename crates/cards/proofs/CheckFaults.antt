-- Each check of the reader finds the first place of its fault. Assumes nothing.
use Rattle.std.proofs.Common.{◌≡◌, ℕ, zero, suc, ◌+◌, ◌*◌, ◌%◌, ◌<◌, ◌≤◌, Bool, ◌&&◌, eqb, ◌⊎◌, List, length, Decides, sym, refl, subst, inl, inr, arith}
use Rattle.std.proofs.lemmas.Bool.{cases_lt}
use Rattle.std.proofs.lemmas.List.{get_or_past}
use Rattle.std.proofs.lemmas.Bool.Decides.{Decides-like, Decides-not, Decides-and, Decides-or, Decides-eqb, Decides-ltb, Decides-below_or}
use Rattle.cards.specs.Table.{deck, suit, most_tricks, has_suit}
use Rattle.cards.specs.Deal.{byte, start_of, number_byte, cards_of, has, largest, most_cards, share, revokes}
use Rattle.cards.specs.Faults.{Check, bad_trump, bad_lead, no_room, cut_short, bad_card, bad_share, bad_suit, SomeNumber, HandCard, Fault}
use Rattle.cards.specs.Reading.{found}
use Rattle.cards.specs.declared.room.Room.{Room}
use Rattle.cards.proofs.Finds.{Finds, finds_same, finds_fault, finds_or, finds_first}
use Rattle.cards.proofs.DealLaws.{start_next, start_mono}
use Rattle.cards.proofs.Standing.{decides_cards}
use Rattle.cards.proofs.CardFaults.{finds_card}

largest_above : (f : ℕ → ℕ) (n q : ℕ) → q < n → f q ≤ largest f n
unfolding largest
largest_above f zero q l = absurd (omega arith)
largest_above f (suc n) q l = grind (arith, largest_above f n q)

-- a largest that is not 0 is one of them
largest_at : (f : ℕ → ℕ) (n : ℕ) → 0 < largest f n → (q : ℕ) × (q < n) × (f q ≡ largest f n)
unfolding largest
largest_at f zero l = absurd (omega arith)
largest_at f (suc n) l = elim (cases_lt (largest f n) (f n)) [
  | inl m ↦ (n, omega arith, omega arith)
  | inr m ↦ let a = largest_at f n (omega arith) in (a.0, omega arith, omega arith)
]

-- past the end stands 0, so a number that is not 0 is there
number_there : (bs : List ℕ) (q : ℕ) → 0 < number_byte bs q → start_of bs q < length bs
number_there bs q l = grind (arith, get_or_past bs (start_of bs q) 0)

-- what more cards only make worse is wrong for some number exactly if it is for the largest
decides_number : (bs : List ℕ) (P : ℕ → Type 0) (b : Bool) → ((n : ℕ) → P n → 0 < n) → ((m n : ℕ) → m ≤ n → P m → P n) →
    Decides b (P (most_cards bs)) → Decides b (SomeNumber bs P)
decides_number bs P b some more =
    Decides-like b
    (λ h.
    let a = largest_at (number_byte bs) 4 (some (most_cards bs) h) in
    (a.0, a.1, number_there bs a.0 (omega (arith, some (most_cards bs) h)), subst P (sym a.2) h))
    (λ h. more (number_byte bs h.0) (most_cards bs) (largest_above (number_byte bs) 4 h.0 h.1) h.3)

finds_room : (n : ℕ) (bs : List ℕ) (room : Room) → Finds (Fault n bs room no_room) (found n bs room no_room)
finds_room n bs room =
    finds_or _ _ (λ p q a b. grind arith)
    (finds_fault _ 0 (decides_number bs (λ m. room.cards < m) _ (λ m h. omega arith) (λ i j l h. omega arith) (Decides-ltb room.cards (most_cards bs))))
    (finds_or _ _ (λ p q a b. omega arith)
    (finds_fault _ 1 (decides_number bs (λ m. room.plays < 4 * m) _ (λ m h. omega arith) (λ i j l h. omega arith) (Decides-ltb room.plays (4 * most_cards bs))))
    (finds_fault _ 2 (Decides-or _ _ (Decides-eqb room.positions 0) (Decides-not _ (Decides-eqb room.positions room.worths)))))

finds_share : (n : ℕ) (bs : List ℕ) (room : Room) → Finds (Fault n bs room bad_share) (found n bs room bad_share)
finds_share n bs room =
    finds_same (λ p h. grind arith) (λ p h. grind arith)
    (finds_first Uneven _ 4
    (λ j k p q l a b. omega (arith, start_next bs j, start_mono bs (suc j) k (omega arith)))
    (λ k l. finds_fault _ (start_of bs k)
    (Decides-or _ _ (Decides-not _ (Decides-eqb (share bs k) (share bs (byte bs 1))))
    (Decides-or _ _ (Decides-eqb (share bs k) 0) (Decides-ltb most_tricks (share bs k))))))
  where
    Uneven : ℕ → ℕ → Type 0
    Uneven q p = (p ≡ start_of bs q) × ((share bs q ≡ share bs (byte bs 1) → ⊥) ⊎ ((share bs q ≡ 0) ⊎ (most_tricks < share bs q)))

-- player k has a card of suit s
abbrev HasSuit : List ℕ → ℕ → ℕ → Type 0
HasSuit bs k s = (r : ℕ) × HandCard bs k r × (byte bs r < deck) × (suit (byte bs r) ≡ s)

decides_suit : (bs : List ℕ) (k s : ℕ) → Decides (has_suit (has (cards_of bs k)) s deck) (HasSuit bs k s)
unfolding has_suit
decides_suit bs k s =
    Decides-like _ (λ h. grind arith) (λ h. grind arith)
    (Decides-below_or (λ c. has (cards_of bs k) c && eqb (suit c) s) _ (has_suit (has (cards_of bs k)) s)
    (λ c. Decides-and _ _ (decides_cards bs k c) (Decides-eqb (suit c) s)) refl (λ _. refl) deck)

finds_suit : (n : ℕ) (bs : List ℕ) (room : Room) → Finds (Fault n bs room bad_suit) (found n bs room bad_suit)
finds_suit n bs room =
    finds_same (λ p h. grind arith) (λ p h. grind arith)
    (finds_first Revokes _ (byte bs 2) (λ j k p q l a b. omega arith)
    (λ i l. finds_fault (revokes bs i) (3 + i)
    (Decides-and _ _ (Decides-not _ (Decides-eqb (suit (byte bs (3 + i))) (suit (byte bs 3))))
    (decides_suit bs ((byte bs 1 + i) % 4) (suit (byte bs 3))))))
  where
    Revokes : ℕ → ℕ → Type 0
    Revokes i p = (p ≡ 3 + i) × ((suit (byte bs (3 + i)) ≡ suit (byte bs 3) → ⊥) × HasSuit bs ((byte bs 1 + i) % 4) (suit (byte bs 3)))

pub finds_faults : (n : ℕ) (bs : List ℕ) (room : Room) (k : Check) → Finds (Fault n bs room k) (found n bs room k)
finds_faults n bs room bad_trump = finds_fault _ 0 (Decides-ltb 4 (byte bs 0))
finds_faults n bs room bad_lead = finds_or _ _ (λ p q a b. omega arith) (finds_fault _ 1 (Decides-ltb 3 (byte bs 1))) (finds_fault _ 2 (Decides-ltb 3 (byte bs 2)))
finds_faults n bs room no_room = finds_room n bs room
finds_faults n bs room cut_short = finds_fault _ (length bs) (Decides-ltb (length bs) (start_of bs 4 + n))
finds_faults n bs room bad_card = finds_card n bs room
finds_faults n bs room bad_share = finds_share n bs room
finds_faults n bs room bad_suit = finds_suit n bs room
