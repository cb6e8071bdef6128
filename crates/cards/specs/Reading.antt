-- The reader's answer, by the checks in their order. Assumes nothing: these are definitions.
use Rattle.std.specs.Prelude.{◌≡◌, ℕ, List, [], ◌∷◌, Some, None, Option}
use Rattle.cards.specs.Table.{Table}
use Rattle.cards.specs.Deal.{start_of, table_in, trump_fault, lead_fault, most_cards, lacks, end_fault, card_fault, share_fault, suit_fault}
use Rattle.cards.specs.Faults.{Check, bad_trump, bad_lead, no_room, cut_short, bad_card, bad_share, bad_suit, number, Fault, FirstOf}
use Rattle.cards.specs.declared.room.Room.{Room}

-- an answer: a table and how many bytes the deal has, or the number of the check that failed and a place
pub data Outcome : Type 0 where
  accepts : Table → ℕ → Outcome
  refuses : ℕ → ℕ → Outcome

-- where a check fails first, if it does, of a deal that n bytes have to follow
abbrev pub found : ℕ → List ℕ → Room → Check → Option ℕ
found n bs room bad_trump = trump_fault bs
found n bs room bad_lead = lead_fault bs
found n bs room no_room = lacks room (most_cards bs)
found n bs room cut_short = end_fault n bs
found n bs room bad_card = card_fault bs
found n bs room bad_share = share_fault bs
found n bs room bad_suit = suit_fault bs

-- a refusal where a check found a fault, else what the later checks say
abbrev pub refuse_at : Option ℕ → ℕ → Outcome → Outcome
refuse_at None n later = later
refuse_at (Some p) n later = refuses n p

-- checks one after the other, by what each finds: the first that fails refuses, and what passes all is taken
abbrev pub run_by : (Check → Option ℕ) → List ℕ → List Check → Outcome
run_by find bs [] = accepts (table_in bs) (start_of bs 4)
run_by find bs (k ∷ ks) = refuse_at (find k) (number k) (run_by find bs ks)

abbrev pub run : ℕ → List ℕ → Room → List Check → Outcome
run n bs room ks = run_by (found n bs room) bs ks

-- all checks
abbrev pub checks : List Check
checks = bad_trump ∷ bad_lead ∷ no_room ∷ cut_short ∷ bad_card ∷ bad_share ∷ bad_suit ∷ []

abbrev pub reading : ℕ → List ℕ → Room → Outcome
reading n bs room = run n bs room checks

-- of faults F, by check and place, an answer is right: it refuses with n at p exactly if the check of that number is the first that fails, and p the
-- first place where it does; it takes the deal exactly if no check fails anywhere, and then as the table that the bytes say
pub record RightOf (F : Check → ℕ → Type 0) (bs : List ℕ) (o : Outcome) : Type 0 where
  pub refused : (n p : ℕ) → o ≡ refuses n p → (k : Check) × (number k ≡ n) × FirstOf F k p
  pub refuses_first : (k : Check) (p : ℕ) → FirstOf F k p → o ≡ refuses (number k) p
  pub taken : (t : Table) (size : ℕ) → o ≡ accepts t size → (k : Check) (p : ℕ) → F k p → ⊥
  pub takes : ((k : Check) (p : ℕ) → F k p → ⊥) → o ≡ accepts (table_in bs) (start_of bs 4)

-- the right answer to a deal
abbrev pub Right : ℕ → List ℕ → Room → Outcome → Type 0
Right n bs room o = RightOf (Fault n bs room) bs o
