-- The words that numbers say.
use Rattle.std.specs.Prelude.{ℕ, List, [], ◌∷◌, Some, None, Option}
use Rattle.words.specs.Words.{word_of}
use Rattle.words.specs.declared.kinds.Word.{Word}

-- a word before others, if there is one
abbrev pub onto : Option Word → List Word → List Word
onto None ws = ws
onto (Some w) ws = w ∷ ws

-- numbers as words; a number that says none is left out
abbrev pub read : List ℕ → List Word
read [] = []
read (n ∷ ns) = onto (word_of n) (read ns)
