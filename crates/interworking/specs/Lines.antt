-- The messages of a line.
use Rattle.std.specs.Prelude.{ℕ, List, [], ◌∷◌, ◌++◌, take, drop, Some, Option}
use Rattle.words.specs.Words.{word_of}
use Rattle.words.specs.declared.kinds.Word.{Word}
use Rattle.words.specs.declared.kinds.Word.TheVariants.{Send}
use Rattle.interworking.specs.declared.line.Line.{Line}

-- octets in a row, cut into messages of these sizes
abbrev pub messages : List ℕ → List ℕ → List (List ℕ)
messages [] octets = []
messages (n ∷ ns) octets = take n octets ∷ messages ns (drop n octets)

-- the messages on a line, the front one first
abbrev pub carried : Line → List (List ℕ)
carried l = messages l.sizes.items l.octets.items

-- the size of a message that is told to be sent
abbrev pub size_in : Option Word → List ℕ
size_in (Some (Send place size)) = size ∷ []
size_in w = []

-- the sizes of all messages that the numbers told say
abbrev pub sizes_in : List ℕ → List ℕ
sizes_in [] = []
sizes_in (n ∷ ns) = size_in (word_of n) ++ sizes_in ns
