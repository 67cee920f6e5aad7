use Rattle.std.proofs.Common.{◌≡◌, ◌+◌, ◌≤◌, ◌++◌, drop, length, vec_len, vec_capacity}
use Rattle.interworking.specs.Lines.{sizes_in}
use Rattle.interworking.proofs.carrying.note.Given as goal

abbrev pub invariant-loop-word : goal.invariant-loop-word
invariant-loop-word l = record {
  room : vec_len l.sizes + length (drop l.word-index l.words) ≤ vec_capacity l.sizes;
  noted : l.initial.sizes.items ++ sizes_in l.words ≡ l.sizes.items ++ sizes_in (drop l.word-index l.words);
}
