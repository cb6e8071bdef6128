-- The table after a card, from its parts, and the tricks left on it. Assumes nothing.
use Rattle.std.proofs.Common.{◌≡◌, ℕ, ◌+◌, ◌%◌, ◌<◌, Bool, true, false, not, ◌&&◌, eqb, List, [], ◌∷◌, ◌++◌, length, take, Some, None, Option, sym, refl, ap, ◌∙◌, subst, arith}
use Rattle.cards.specs.Table.{Table, pick, Sound, InOrder}
use Rattle.cards.specs.Hands.{Kept, held, numbers, table_of}
use Rattle.cards.specs.Seen.{seen, tricks_left}
use Rattle.cards.specs.declared.board.Board.{Board}
use Rattle.cards.specs.declared.card.Card.{Card}
use Rattle.cards.specs.declared.card.Trump.{Trump}
use Rattle.cards.specs.declared.hand.Hand.{Hand}
use Rattle.cards.specs.declared.player.Player.{Player}
use Rattle.cards.proofs.Order.{in_order}
use Rattle.tricks.specs.Rules.{turn, may, winner, without, after}
use Rattle.tricks.specs.Statements.{left_after}
use Rattle.tricks.specs.Taken.{taken_by, next_of}
use Rattle.tricks.proofs.BoardLaws.{trick_after, tricks_are}
use Rattle.tricks.proofs.Stays.{stays_sound}

-- the table after a card, from its hands, its leader and its trick
after_is : (t : Table) (c : ℕ) (hand : ℕ → ℕ → Bool) (leader : ℕ) (trick : List ℕ) →
    ((p x : ℕ) → hand p x ≡ without t c p x) → leader ≡ next_of (taken_by t c) t.leader → trick ≡ pick (eqb (length t.trick) 3) [] (t.trick ++ (c ∷ [])) →
    (let u : Table = record { trump = t.trump; hand = hand; leader = leader; trick = trick } in u ≡ after t c)
unfolding after
after_is t c hand leader trick h l k =
    let next = l ∙ by (eqb (length t.trick) 3) in
    λ i. record { trump = t.trump; hand = λ p x. h p x i; leader = next i; trick = k i }
  where
    by : (b : Bool) → next_of (pick b (Some (winner t (t.trick ++ (c ∷ [])))) None) t.leader ≡ pick b (winner t (t.trick ++ (c ∷ []))) t.leader
    by true = refl
    by false = refl

-- the fields of a board after a card stand for the table after it: seat is the player's, n the cards that lay on the table
pub board_is : (b : Board) (c seat n played : ℕ) (hands : List Hand) (leader : Player) (trick : List Card) (taker : Option ℕ) →
    seat ≡ turn (seen b) → ((p x : ℕ) → held hands p x ≡ (held b.hands p x && not (eqb p seat && eqb x c))) →
    taker ≡ taken_by (seen b) c → leader.seat ≡ next_of taker b.leader.seat →
    n ≡ length (seen b).trick → n ≡ b.played → (n < 3 → take (n + 1) (numbers trick) ≡ take n (numbers b.trick) ++ (c ∷ [])) → played ≡ (n + 1) % 4 →
    table_of b.trump hands leader trick played ≡ after (seen b) c
board_is b c seat n played hands leader trick taker own less takes leads lying count more next =
    after_is (seen b) c (held hands) leader.seat (take played (numbers trick))
    (λ p x. less p x ∙ ap (λ (s : ℕ). held b.hands p x && not (eqb p s && eqb x c)) own)
    (leads ∙ ap (λ (o : Option ℕ). next_of o b.leader.seat) takes)
    (ap (λ (k : ℕ). take k (numbers trick)) next
    ∙ trick_after (seen b).trick (numbers trick) n c (sym lying) (omega (arith, b.short)) (λ l. more l ∙ ap (λ (k : ℕ). take k (numbers b.trick) ++ (c ∷ [])) count))

-- a board of the table after a card is in order
pub order_after : (b : Board) (c : ℕ) (trump : Trump) (hands : List Hand) (leader : Player) (trick : List Card) (played : ℕ) → length trick ≡ 3 → played < 4 →
    may (seen b) c ≡ true → table_of trump hands leader trick played ≡ after (seen b) c → Kept trump hands leader trick played
order_after b c trump hands leader trick played three l m e =
    let o = subst (λ (t : Table). InOrder t (left_after (seen b) (tricks_left b))) (sym e) (stays_sound (seen b) (tricks_left b) c (in_order b) m) in
    ∣ subst (λ (n : ℕ). InOrder (table_of trump hands leader trick played) n) (sym (tricks_are trump hands leader trick played _ three l o.sound)) o ∣₁

-- a sound table has one number of tricks left
one_number : (t : Table) (m n : ℕ) → Sound t m → Sound t n → m ≡ n
one_number t m n a b = sym (a.have 0 (omega arith)) ∙ b.have 0 (omega arith)

pub left_is : (b r : Board) (c : ℕ) → may (seen b) c ≡ true → seen r ≡ after (seen b) c → tricks_left r ≡ left_after (seen b) (tricks_left b)
left_is b r c m e =
    let s = (stays_sound (seen b) (tricks_left b) c (in_order b) m).sound in
    one_number (seen r) _ _ (in_order r).sound (subst (λ (t : Table). Sound t (left_after (seen b) (tricks_left b))) (sym e) s)
