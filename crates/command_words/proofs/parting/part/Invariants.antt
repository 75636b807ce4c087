use Rattle.std.proofs.Common.{◌≡◌, ◌++◌, ◌≤◌, ◌-◌, map, drop, length, string_bytes}
use Rattle.command_words.specs.Parts.{lacks_value, parted_of}
use Rattle.command_words.proofs.parting.part.Given as goal

abbrev pub invariant-words : goal.invariant-words
invariant-words l = record {
  inside : l.at ≤ length l.words;
  places : map string_bytes l.places.items ++ (parted_of l.kind (map string_bytes (drop l.at l.words))).places ≡ (parted_of l.kind (map string_bytes l.words)).places;
  options : map string_bytes l.options.items ++ (parted_of l.kind (map string_bytes (drop l.at l.words))).options ≡ (parted_of l.kind (map string_bytes l.words)).options;
  flags : map string_bytes l.flags.items ++ (parted_of l.kind (map string_bytes (drop l.at l.words))).flags ≡ (parted_of l.kind (map string_bytes l.words)).flags;
  lacks : lacks_value l.kind (map string_bytes (drop l.at l.words)) ≡ lacks_value l.kind (map string_bytes l.words);
}

abbrev pub decreases-words : goal.decreases-words
decreases-words l = length l.words - l.at
