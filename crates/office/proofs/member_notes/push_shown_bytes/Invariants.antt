use Rattle.std.proofs.Common.{◌≡◌, ◌++◌, map, string_bytes, take}
use Rattle.office.specs.MemberNotes.{shown_byte}
use Rattle.office.proofs.member_notes.push_shown_bytes.Given as goal

abbrev pub invariant-loop-byte : goal.invariant-loop-byte
invariant-loop-byte l = string_bytes l.text ≡ string_bytes l.initial.text ++ map shown_byte (take l.byte-index l.bytes)
