-- From bytes to the answer: the parts put together. Assumes nothing.
use Rattle.std.proofs.Common.{◌≡◌, ℕ, zero, suc, ◌+◌, ◌*◌, ◌<◌, ◌≤◌, Bool, true, false, ◌||◌, eqb, ltb, leb, List, [], ◌∷◌, length, drop, Ok, Err, Result, sym, refl, ap, ◌∙◌, subst, inl, inr, arith, length-take}
use Rattle.std.proofs.lemmas.Bool.{both_ways, cases_eq, cases_lt, and_parts, and_from, lt-ltb, le-ltb, eq-eqb, ne_eqb}
use Rattle.cards.specs.Table.{Table, pick, one, deck, count, cards_left, InOrder}
use Rattle.cards.specs.Deal.{byte, start_of, number_byte, cards_of, has, table_in}
use Rattle.cards.specs.Faults.{Check, bad_trump, bad_lead, no_room, cut_short, bad_share, bad_suit, number, Fault, FirstOf}
use Rattle.cards.specs.Faults as deal
use Rattle.cards.specs.Reading as reading
use Rattle.cards.specs.Refusals.{number_of, place_of}
use Rattle.cards.specs.Seen.{seen, tricks_left}
use Rattle.cards.specs.Told.{told}
use Rattle.cards.specs.declared.board.Board.{Board}
use Rattle.cards.specs.declared.deal.Deal.{Deal}
use Rattle.cards.specs.declared.refusal.Refusal.{Refusal}
use Rattle.cards.specs.declared.room.Room.{Room}
use Rattle.cards.proofs.CountLaws.{count_none}
use Rattle.cards.proofs.DealLaws.{within}
use Rattle.cards.proofs.Order.{in_order}
use Rattle.referee.specs.Plays.{notes_of}
use Rattle.referee.specs.Refereed as referee
use Rattle.referee.specs.Right.{card_at, table_at, AllFit, Stops, Why, Right}
use Rattle.referee.specs.declared.row.Play.{Play}
use Rattle.referee.proofs.CardsLaws.{few_cards}
use Rattle.referee.proofs.RowRight.{card_refused}
use Rattle.worth.specs.Value.{tricks_at}
use Rattle.worth.specs.Answer.{usable}
use Rattle.worth.proofs.ValueLaws as value
use Rattle.claims.specs.Claimed.{claims_side, claims_tricks, claimable, Made, NoClaim}
use Rattle.claims.specs.Judged.{JudgementTold, Refused, judgement_told, ClaimJudged}
use Rattle.claims.specs.Judging.{Judging}
use Rattle.claims.specs.PlayedOn.{LineRefused, no_places, no_slots, bad_card, PlayOnTold}
use Rattle.claims.specs.SideBytes.{SideTold}
use Rattle.claims.specs.Bytes.{GoodDeal, rest_of, RowRefused, bad_deal, bad_row, RowStands, table_after, TableTold, before_claim, side_byte, tricks_byte, InputRefused, bad_claim, InputTold, PlayFault, player_byte, others_row, SideStands, StartRefused, no_deal, bad_side, PlayRefused, bad_line, PlayTold}
use Rattle.claims.specs.declared.claim.Claim.{Claim}
use Rattle.claims.specs.declared.claim.Claim.TheVariants.{Ours, Others}
use Rattle.claims.specs.declared.judge.Judgement.{Judgement}
use Rattle.claims.specs.declared.play_on.Line.{Line}

-- ---- the deal
-- F says by check and place what is wrong with it
module _ (F : Check → ℕ → Type 0) (bs : List ℕ) where
  -- what was taken is a good deal, and the table that the bytes say
  pub deal_taken : (d : Deal) → reading.RightOf F bs (told (Ok d)) → GoodDeal F × (seen d.board ≡ table_in bs) × (d.size ≡ start_of bs 4)
  deal_taken d right =
      let good = right.taken (seen d.board) d.size refl in
      let is = right.takes good in
      (good, (let e : seen d.board ≡ table_in bs = cc in e), (let e : d.size ≡ start_of bs 4 = cc in e))

  pub deal_refused : (e : Refusal) → reading.RightOf F bs (told (Err e)) → (k : Check) × (number k ≡ number_of e) × FirstOf F k (place_of e)
  deal_refused e right = right.refused (number_of e) (place_of e) refl

module _ (bs : List ℕ) (room : Room) where
  pub start_refused : (e : Refusal) → reading.RightOf (PlayFault bs room) bs (told (Err e)) → StartRefused bs room (number_of e) (place_of e)
  start_refused e right = let (k, is, first) = deal_refused (PlayFault bs room) bs e right in subst (λ (n : ℕ). StartRefused bs room n (place_of e)) is (no_deal k first)

  -- a good deal that the side byte has to follow is a good deal
  pub good_alone : GoodDeal (PlayFault bs room) → GoodDeal (Fault 0 bs room)
  good_alone good bad_trump p = good bad_trump p
  good_alone good bad_lead p = good bad_lead p
  good_alone good no_room p = good no_room p
  good_alone good cut_short p = λ f. good cut_short p (f.0, omega arith)
  good_alone good deal.bad_card p = good deal.bad_card p
  good_alone good bad_share p = good bad_share p
  good_alone good bad_suit p = good bad_suit p

  -- the slices of a good deal's room can be used
  pub lent_slots : (keys worths : List ℕ) → room.positions ≡ length keys → room.worths ≡ length worths → GoodDeal (Fault 0 bs room) → usable keys worths ≡ true
  lent_slots keys worths a b good = elim (cases_eq room.positions 0) [
    | inl z ↦ absurd (good no_room 2 (inr (inr (refl, inl z))))
    | inr some ↦ elim (cases_eq room.positions room.worths) [
      | inl e ↦ and_from _ _ (lt-ltb 0 (length keys) (omega (arith, positive room.positions some))) (eq-eqb (length keys) (length worths) (omega arith))
      | inr e ↦ absurd (good no_room 2 (inr (inr (refl, inr e))))
    ]
  ]
    where
      positive : (n : ℕ) → (n ≡ 0 → ⊥) → 0 < n
      positive n f = elim (cases_eq n 0) [ inl e ↦ absurd (f e) | inr e ↦ omega (arith, e) ]

-- ---- the row
-- a row is taken, or refused for a card
abbrev RowAnswer : Table → List ℕ → Result Board Refusal → Type 0
RowAnswer t cs (Ok b) = AllFit t cs × (seen b ≡ table_at t cs (length cs))
RowAnswer t cs (Err e) = Stops t cs (place_of e) × Why (table_at t cs (place_of e)) (card_at cs (place_of e)) (number_of e)

row_answer : (t : Table) (n : ℕ) → InOrder t n → (cs : List ℕ) (lent lent' : List Play) → cards_left t ≤ length lent → (r : Result Board Refusal) →
    referee.Refereed t cs lent lent' r → Right t (length lent) cs (referee.told (length cs) lent' r) → RowAnswer t cs r
row_answer t n o cs lent lent' l (Ok b) value right = let (_, fit, reached, _) = right.taken (notes_of _) (seen b) refl in (fit, reached)
row_answer t n o cs lent lent' l (Err e) value right =
    let (_, stops, why) = right.refused (number_of e) (place_of e) refl (card_refused t n (length lent) cs o l (number_of e) (place_of e) (sym value.answer)) in
    (stops, why)

module _ (bs : List ℕ) (room : Room) where
  row_told : GoodDeal (Fault 0 bs room) → (r : Result Board Refusal) → RowAnswer (table_in bs) (rest_of bs) r → TableTold bs room r
  row_told good (Ok b) (fit, reached) = (record { deal = good; row = fit }, reached)
  row_told good (Err e) (stops, why) = bad_row good stops why

  pub table_told : (d : Deal) → reading.Right 0 bs room (told (Ok d)) → (cs : List ℕ) → cs ≡ drop d.size bs → (lent lent' : List Play) → length lent ≡ 32 → (r : Result Board Refusal) →
      referee.Refereed (seen d.board) cs lent lent' r → Right (seen d.board) (length lent) cs (referee.told (length cs) lent' r) → TableTold bs room r
  table_told d taken cs rest lent lent' l r value right =
      let (good, table, size) = deal_taken (Fault 0 bs room) bs d taken in
      let b = d.board in
      let answer = row_answer (seen b) (tricks_left b) (in_order b) cs lent lent' (omega (arith, few_cards (seen b) (tricks_left b) (in_order b))) r value right in
      row_told good r (subst (λ (xs : List ℕ). RowAnswer (table_in bs) xs r) (rest ∙ ap (λ (k : ℕ). drop k bs) size) (subst (λ (t : Table). RowAnswer t cs r) table answer))

  pub table_refused : (e : Refusal) → reading.Right 0 bs room (told (Err e)) → TableTold bs room (Err e)
  table_refused e right = let (k, is, first) = deal_refused (Fault 0 bs room) bs e right in subst (λ (n : ℕ). RowRefused bs room n (place_of e)) is (bad_deal k first)

-- ---- the claim
-- the side that claims is the one that its byte says
side_made : (c : Claim) (side : ℕ) → pick (claims_side c) 0 1 ≡ side → claims_side c ≡ eqb side 0
side_made (Ours k) side e = ap (λ (n : ℕ). eqb n 0) e
side_made (Others k) side e = ap (λ (n : ℕ). eqb n 0) e

-- the tricks left at a board are those of its table
pub left_at : (b : Board) → tricks_at (seen b) ≡ tricks_left b
left_at b = value.tricks_left (seen b) (tricks_left b) (in_order b).sound

-- what makes no claim is refused last
pub claim_refused : (bs : List ℕ) (room : Room) (b : Board) → RowStands (before_claim bs) room → seen b ≡ table_after (before_claim bs) →
    (side tricks left : ℕ) → side ≡ side_byte bs → tricks ≡ tricks_byte bs → left ≡ tricks_left b → (e : Refusal) → NoClaim side tricks left e → InputRefused bs room (number_of e) (place_of e)
claim_refused bs room b stands is side tricks left s k l e none =
    let n : left ≡ tricks_at (table_after (before_claim bs)) = l ∙ sym (left_at b) ∙ ap tricks_at is in
    let refused = subst (λ (x : ℕ). claimable (side_byte bs) (tricks_byte bs) x ≡ false) n
    (subst (λ (x : ℕ). claimable (side_byte bs) x left ≡ false) k (subst (λ (x : ℕ). claimable x tricks left ≡ false) s none.claimed)) in
    subst (λ (x : ℕ). InputRefused bs room x (place_of e)) (sym none.number) (subst (InputRefused bs room 10) (sym none.place) (bad_claim stands refused))

module _ (side tricks : ℕ) (b : Board) (c : Claim) (made : Made side tricks (tricks_left b) c) (keys worths keys' worths' : List ℕ) where
  -- a claim that was made is judged, with slices that can be used
  never_refused : (e : Refusal) → usable keys worths ≡ true → Refused (leb (claims_tricks c) (tricks_left b)) keys worths keys' worths' e → ⊥
  never_refused e lent h =
      let within : leb (claims_tricks c) (tricks_left b) ≡ true = ap (λ (k : ℕ). leb k (tricks_left b)) made.many ∙ (and_parts _ _ made.claimed).1 in
      both_ways _ (subst (λ (x : Bool). Refused x keys worths keys' worths' e) within h).lent lent

  -- and judged at its table
  judged_at : (u : Table) → seen b ≡ u → (j : Judging) → JudgementTold (claims_side c) (tricks_left b) (claims_tricks c) (seen b) keys worths keys' worths' j →
      (claimable side tricks (tricks_at u) ≡ true) × JudgementTold (eqb side 0) (tricks_at u) tricks u keys worths keys' worths' j
  judged_at u is j h =
      let left : tricks_left b ≡ tricks_at u = sym (left_at b) ∙ ap tricks_at is in (
        subst (λ (n : ℕ). claimable side tricks n ≡ true) left made.claimed,
        subst (λ (s : Bool). JudgementTold s (tricks_at u) tricks u keys worths keys' worths' j) (side_made c side made.by)
            (subst (λ (n : ℕ). JudgementTold (claims_side c) n tricks u keys worths keys' worths' j) left
            (subst (λ (k : ℕ). JudgementTold (claims_side c) (tricks_left b) k u keys worths keys' worths' j) made.many
            (subst (λ (t : Table). JudgementTold (claims_side c) (tricks_left b) (claims_tricks c) t keys worths keys' worths' j) is h))),
      )

  pub input_told : (bs : List ℕ) (room : Room) → side ≡ side_byte bs → tricks ≡ tricks_byte bs → room.positions ≡ length keys → room.worths ≡ length worths →
      RowStands (before_claim bs) room → seen b ≡ table_after (before_claim bs) → (r : Result Judgement Refusal) →
      ClaimJudged (claims_side c) (tricks_left b) (claims_tricks c) (seen b) keys worths keys' worths' r → InputTold bs room keys worths keys' worths' r
  input_told bs room s k a e stands is (Err x) h = absurd (never_refused x (lent_slots (before_claim bs) room keys worths a e stands.deal) h)
  input_told bs room s k a e stands is (Ok j) h =
      let u = table_after (before_claim bs) in
      let (claimed, judged) = judged_at u is (judgement_told j) h in
      record {
        stands = stands;
        claimed = subst (λ (n : ℕ). claimable n (tricks_byte bs) (tricks_at u) ≡ true) s (subst (λ (n : ℕ). claimable side n (tricks_at u) ≡ true) k claimed);
        judged = subst (λ (n : ℕ). JudgementTold (eqb n 0) (tricks_at u) (tricks_byte bs) u keys worths keys' worths' (judgement_told j)) s
            (subst (λ (n : ℕ). JudgementTold (eqb side 0) (tricks_at u) n u keys worths keys' worths' (judgement_told j)) k judged);
      }

-- ---- the side that goes by advice
module _ (bs : List ℕ) (room : Room) (d : Deal) (taken : reading.RightOf (PlayFault bs room) bs (told (Ok d))) where
  pub side_refused : (e : Refusal) → SideTold (byte bs d.size) (Err e) → StartRefused bs room (number_of e) (place_of e)
  side_refused e (l, is) =
      let (good, _, size) = deal_taken (PlayFault bs room) bs d taken in
      subst (λ (x : Refusal). StartRefused bs room (number_of x) (place_of x)) (sym is) (bad_side good (subst (λ (k : ℕ). 1 < byte bs k) size l))

  pub side_known : byte bs d.size < 2 → SideStands bs room
  side_known l =
      let (good, _, size) = deal_taken (PlayFault bs room) bs d taken in
      record { deal = good; side = subst (λ (k : ℕ). byte bs k < 2) size l }

-- ---- places for plays
one_most : (b : Bool) → one b ≤ 1
one_most true = omega arith
one_most false = omega arith

-- a list has no more cards than it is long
count_either : (h : ℕ → Bool) (c n : ℕ) → count (λ x. eqb x c || h x) n ≤ count h n + one (ltb c n)
unfolding count
count_either h c zero = omega arith
count_either h c (suc n) = elim (cases_eq n c) [
  | inl e ↦ let low = le-ltb c n (omega arith) in let high = lt-ltb c (suc n) (omega arith) in omega (arith, count_either h c n, ap one low, ap one high, one_most (eqb n c || h n))
  | inr e ↦
      let same : one (eqb n c || h n) ≡ one (h n) = ap (λ (b : Bool). one (b || h n)) (ne_eqb n c e) in
      omega (arith, count_either h c n, one_later c n)
]
  where
    one_later : (k m : ℕ) → one (ltb k m) ≤ one (ltb k (suc m))
    one_later k m = elim (cases_lt k m) [
      | inl l ↦ let low = lt-ltb k m l in let high = lt-ltb k (suc m) (omega arith) in omega (arith, ap one low, ap one high)
      | inr l ↦ let low = le-ltb k m l in omega (arith, ap one low)
    ]

has_few : (cs : List ℕ) (n : ℕ) → count (has cs) n ≤ length cs
unfolding has
has_few [] n = let e = count_none (λ _. false) n (λ x. refl) in omega arith
has_few (c ∷ cs) n = omega (arith, count_either (has cs) c n, has_few cs n, one_most (ltb c n))

module _ (bs : List ℕ) (room : Room) (good : GoodDeal (Fault 0 bs room)) where
  whole : start_of bs 4 ≤ length bs
  whole = elim (cases_lt (length bs) (start_of bs 4)) [ inl l ↦ absurd (good cut_short (length bs) (refl, omega arith)) | inr l ↦ omega arith ]

  -- each hand's plays have places four times over
  fourfold : (p : ℕ) → p < 4 → 4 * number_byte bs p ≤ room.plays
  fourfold p l = elim (cases_lt room.plays (4 * number_byte bs p)) [
    | inl short ↦ absurd (good no_room 1 (inr (inl (refl, (p, l, omega (arith, within bs p l whole), short)))))
    | inr enough ↦ enough
  ]

  hand_few : (p : ℕ) → count (has (cards_of bs p)) deck ≤ number_byte bs p
  hand_few p = omega (arith, has_few (cards_of bs p) deck, length-take (number_byte bs p) (drop (start_of bs p + 1) bs))

  -- there are places for the plays of all cards of a good deal
  pub places_suffice : cards_left (table_in bs) ≤ room.plays
  places_suffice = omega (arith, hand_few 0, hand_few 1, hand_few 2, hand_few 3, fourfold 0 (omega arith), fourfold 1 (omega arith), fourfold 2 (omega arith), fourfold 3 (omega arith))

-- ---- playing on
module _ (bs : List ℕ) (room : Room) (plays plays' : List Play) (keys worths keys' worths' : List ℕ) (a : room.plays ≡ length plays) (b : room.positions ≡ length keys) (c : room.worths ≡ length worths) (stands : SideStands bs room) where
  line_refused : (n p : ℕ) → LineRefused (eqb (player_byte bs) 0) (table_in bs) (others_row bs) (length plays) keys worths keys' worths' n p → PlayRefused bs room keys worths keys' worths' n p
  line_refused n p (no_places l x y) = absurd (omega (arith, places_suffice bs room (good_alone bs room stands.deal)))
  line_refused n p (no_slots l u x y) = absurd (both_ways _ u (lent_slots bs room keys worths b c (good_alone bs room stands.deal)))
  line_refused n p (bad_card l u halts true-slots) = bad_line stands halts true-slots

  play_told : (r : Result Line Refusal) → PlayOnTold (eqb (player_byte bs) 0) (table_in bs) (others_row bs) plays plays' keys worths keys' worths' r → PlayTold bs room plays plays' keys worths keys' worths' r
  play_told (Ok x) h = record { stands = stands; line = h }
  play_told (Err e) (h, same) = (line_refused (number_of e) (place_of e) h, same)

  -- what was told of the side, the table and the row of an input is told of the input
  pub input_played : (side : Bool) (t : Table) (cs : List ℕ) → side ≡ eqb (player_byte bs) 0 → t ≡ table_in bs → cs ≡ others_row bs →
      (r : Result Line Refusal) → PlayOnTold side t cs plays plays' keys worths keys' worths' r → PlayTold bs room plays plays' keys worths keys' worths' r
  input_played side t cs e f g r h =
      play_told r
      (subst (λ (s : Bool). PlayOnTold s (table_in bs) (others_row bs) plays plays' keys worths keys' worths' r) e
      (subst (λ (u : Table). PlayOnTold side u (others_row bs) plays plays' keys worths keys' worths' r) f
      (subst (λ (xs : List ℕ). PlayOnTold side t xs plays plays' keys worths keys' worths' r) g h)))
