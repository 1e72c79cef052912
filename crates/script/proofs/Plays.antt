-- What a line does to a sheet, by what the section does.
use Rattle.std.proofs.Common.{◌≡◌, List, ℤ, Some, None, Option, ap, ◌∙◌}
use Rattle.std.specs.Option.{option_map}
use Rattle.common.specs.Questions.{Code, first_no}
use Rattle.common.proofs.AllYes.{first_told}
use Rattle.sections.specs.Codes.{cause_and_line, fault_code, section_code}
use Rattle.sections.specs.Rule.{Rule}
use Rattle.sections.specs.declared.fault.Fault.{Fault}
use Rattle.script.specs.Lines.{line_questions, line_entered}
use Rattle.script.specs.Rounds.{TallyState, playing, played_entry, rule_of}
use Rattle.script.specs.declared.entries.Entry.{Entry}
use Rattle.script.specs.declared.words.Kind.{Kind}

-- an entry that the section grants, and one that it refuses
pub entry_granted : (rule : Rule) (f : List ℤ) (e : Entry) (o : Option Entry) → o ≡ Some e → first_no (rule.entry f e.a e.b e.r) ≡ None → first_no (line_questions rule f o) ≡ None
entry_granted rule f e o read asked = rw read (first_told section_code (rule.entry f e.a e.b e.r) ∙ ap (λ n. option_map section_code n) asked)

pub entry_refused : (rule : Rule) (f : List ℤ) (e : Entry) (fault : Fault) (o : Option Entry) → o ≡ Some e → first_no (rule.entry f e.a e.b e.r) ≡ Some (cause_and_line fault) → first_no (line_questions rule f o) ≡ Some (fault_code fault)
entry_refused rule f e fault o read asked = rw read (first_told section_code (rule.entry f e.a e.b e.r) ∙ ap (λ n. option_map section_code n) asked)

pub line_granted : (kind : Kind) (f g : List ℤ) (o : Option Entry) → first_no (line_questions (rule_of kind) f o) ≡ None → g ≡ line_entered (rule_of kind) f o → ◌≡◌ {A = TallyState × Code} (playing kind g, (0, 0, 0)) (played_entry kind f o)
line_granted kind f g o granted after = rw (granted, after)

pub line_refused : (kind : Kind) (f : List ℤ) (o : Option Entry) (code : Code) → first_no (line_questions (rule_of kind) f o) ≡ Some code → ◌≡◌ {A = TallyState × Code} (playing kind f, code) (played_entry kind f o)
line_refused kind f o code refused = rw refused
