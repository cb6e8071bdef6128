-- Trump and tables as text, in bytes. Assumes nothing: these are definitions.
use Rattle.std.specs.Prelude.{ℕ, Bool, List, ◌++◌, codes, decimal, ◌==◌}
use Rattle.cards.specs.Table.{Table, pick}
use Rattle.text.specs.Cards.{suit_text, row_text, hand_text}

-- the suit that is trump, or that none is
abbrev pub trump_word : ℕ → List ℕ
trump_word n = pick (n == 4) (codes "none") (suit_text n)

-- what is said of trump
abbrev pub trump_text : ℕ → List ℕ
trump_text n = codes "trump " ++ trump_word n

-- the line of trump, of who leads and of the trick on the table
abbrev pub first_line : Table → List ℕ
first_line t = trump_text t.trump ++ (codes ", leader " ++ (decimal t.leader ++ (codes ", trick " ++ row_text t.trick)))

-- the lines of the four hands, each of which follows another line
abbrev pub hand_lines : (ℕ → ℕ → Bool) → List ℕ
hand_lines h =
    codes "\n0: " ++ (hand_text (h 0) ++ (codes "\n1: " ++ (hand_text (h 1) ++ (codes "\n2: " ++ (hand_text (h 2) ++ (codes "\n3: " ++ hand_text (h 3)))))))

-- a table: a line for what lies on it, and a line for each hand
abbrev pub table_text : Table → List ℕ
table_text t = first_line t ++ hand_lines t.hand
