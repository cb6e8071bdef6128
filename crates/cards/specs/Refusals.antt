-- The number and the place by which each refusal is told. Assumes nothing: these are definitions.
use Rattle.std.specs.Prelude.{ℕ}
use Rattle.cards.specs.declared.refusal.Refusal.{Refusal}
use Rattle.cards.specs.declared.refusal.Refusal.TheVariants.{Trump, Leader, Trick, Ends, Card, Share, TrickRevoke, NotHeld, Revoke, AfterLast, Claim, Short}
use Rattle.cards.specs.declared.refusal.Lent.{Lent}
use Rattle.cards.specs.declared.refusal.Lent.TheVariants.{Hands, Plays, Positions}

abbrev pub number_of : Refusal → ℕ
number_of Trump = 1
number_of Leader = 2
number_of Trick = 2
number_of (Ends p) = 3
number_of (Card p) = 4
number_of (Share p) = 5
number_of (TrickRevoke p) = 6
number_of (NotHeld p) = 7
number_of (Revoke p) = 8
number_of (AfterLast p) = 9
number_of Claim = 10
number_of (Short m) = 11

abbrev pub lent_place : Lent → ℕ
lent_place Hands = 0
lent_place Plays = 1
lent_place Positions = 2

abbrev pub place_of : Refusal → ℕ
place_of Trump = 0
place_of Leader = 1
place_of Trick = 2
place_of (Ends p) = p
place_of (Card p) = p
place_of (Share p) = p
place_of (TrickRevoke p) = p
place_of (NotHeld p) = p
place_of (Revoke p) = p
place_of (AfterLast p) = p
place_of Claim = 0
place_of (Short m) = lent_place m
