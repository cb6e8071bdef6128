-- Judgements of claims as text, in bytes. Assumes nothing: these are definitions.
use Rattle.std.specs.Prelude.{ℕ, List, ◌++◌, codes, decimal}
use Rattle.claims.specs.Judging.{Answered, Judging, upholds, fails_by, replies}
use Rattle.text.specs.Each.{each_after}
use Rattle.text.specs.Cards.{card_text, card_or_dash}

-- a card and the reply to it
abbrev pub reply_text : Answered → List ℕ
reply_text a = card_text a.card ++ (codes ": " ++ card_or_dash a.reply)

-- replies, each on a line that follows another
abbrev pub reply_lines : List Answered → List ℕ
reply_lines rs = each_after (codes "\n") reply_text rs

-- the worth, that the claim is not upheld, and the replies
abbrev pub answers_text : ℕ → List Answered → List ℕ
answers_text w rs = (codes "worth " ++ (decimal w ++ codes "\nnot upheld")) ++ reply_lines rs

-- a judgement: the worth, whether the claim is upheld, and the card or the replies that show it
abbrev pub judgement_text : Judging → List ℕ
judgement_text (upholds w c) = codes "worth " ++ (decimal w ++ (codes "\nupheld\ncard " ++ card_or_dash c))
judgement_text (fails_by w c) = codes "worth " ++ (decimal w ++ (codes "\nnot upheld\ncard " ++ card_or_dash c))
judgement_text (replies w rs) = answers_text w rs
