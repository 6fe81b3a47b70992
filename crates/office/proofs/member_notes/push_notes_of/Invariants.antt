use Rattle.std.proofs.Common.{◌≡◌, ◌++◌, string_bytes}
use Rattle.serde_json.specs.View.{members_view}
use Rattle.office.specs.MemberNotes.{member_names, notes_of_members}
use Rattle.office.proofs.member_notes.push_notes_of.Given as goal

abbrev pub invariant-loop-name : goal.invariant-loop-name
invariant-loop-name l =
    string_bytes l.text ++ notes_of_members l.line l.fields (member_names (members_view l.name-iterator))
    ≡ string_bytes l.initial.text ++ notes_of_members l.line l.fields (member_names (members_view l.members.entries))
