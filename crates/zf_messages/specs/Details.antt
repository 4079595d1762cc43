-- What a fault is about: the details of its message.
use Rattle.std.specs.Prelude.{ℕ, zero, suc, nat_eq, nat_le, nat_lt, Bool, if◌then◌else◌, List, [], ◌∷◌, ◌++◌, length, take, get_or, Some, None, codes, decimal, slice_get, ◌≡◌, ◌==◌, map}
use Rattle.std.specs.List.{fold, starts_with}
use Rattle.std.specs.Option.{option_map_or}
use Rattle.std.specs.Char.{is_ascii_graphic}
use Rattle.zf_tree.specs.declared.symbol.Constant.{Constant}
use Rattle.zf_tree.specs.declared.symbol.Constant.TheVariants.{True, False, Integers, Naturals, Positives}
use Rattle.zf_scan.specs.declared.fault.TextFault.{TextFault}
use Rattle.zf_scan.specs.declared.scan.TheConstants.{SOURCE_MAX}
use Rattle.zf_scan.specs.{number_max}
use Rattle.zf_scan.specs.declared.fault.TextFaultKind.{TextFaultKind}
use Rattle.zf_scan.specs.declared.fault.TextFaultKind.TheVariants.{BadByte, UnknownCommand, NotInProfile, UnclosedBox, Unexpected, NumberTooLarge, TooDeep, TooLong, OutOfMemory}
use Rattle.zf_term.specs.declared.fault.Limit.{Limit}
use Rattle.zf_term.specs.declared.fault.Limit.TheVariants.{TypeNodes, Components, Sets, Conjuncts, Nodes, Height}
use Rattle.zf_term.specs.{a_schema, already_defined, clash, components_max, conjuncts_max, Defined, Fault, first_named, height_max, kind_of, local_twice, mismatch, misplaced, no_members, nodes_max, not_a_schema, not_declared, Offence, predicate, Schema, schema, sets_max, Sort, too_large, type_nodes_max, type_text, typed, unfit}
use Rattle.zf_grammar.specs.{height_limit}
use Rattle.zf_extent.specs.declared.offender.Offender.{Offender}
use Rattle.zf_extent.specs.declared.offender.Offender.TheVariants.{Name, Symbol}
use Rattle.zf_finite.specs.declared.not_finite.NotFinite.{NotFinite}
use Rattle.zf_finite.specs.declared.not_finite.NotFinite.TheVariants.{Unbounded, Offends}
use Rattle.zf_finite.specs.{cause_span}
use Rattle.zf_tree.specs.declared.span.Span.{Span}
use Rattle.zf_messages.specs.declared.causes.Causes.{Causes}
use Rattle.zf_messages.specs.declared.message.At.{At}
use Rattle.zf_messages.specs.declared.message.At.TheVariants.{File, Line}
use Rattle.zf_messages.specs.declared.message.Detail.{Detail}
use Rattle.zf_messages.specs.declared.message.Message.{Message}
use Rattle.zf_messages.specs.Messages.{detail, detail_if_any, message}
use Rattle.zf_messages.specs.Places.{line_at, quoted}
use Rattle.zf_messages.specs.Texts.{not_finite_text, text_fault_text, type_fault_text}

-- the message with what it is about, if that is asked for
abbrev pub with_details : (details : Bool) → At → (text : List ℕ) → List Detail → Message
with_details details at text about = message at text (if details then about else [])

-- ---- faults of types

abbrev pub sort_text : Sort → List ℕ
sort_text (typed t) = type_text t
sort_text predicate = codes "a predicate"
sort_text a_schema = codes "a schema"

abbrev pub limit_text : Limit → List ℕ
limit_text TypeNodes = decimal type_nodes_max ++ codes " nodes in a type"
limit_text Components = decimal components_max ++ codes " components in a schema"
limit_text Sets = decimal sets_max ++ codes " declared sets in a schema"
limit_text Conjuncts = decimal conjuncts_max ++ codes " conjuncts in a schema"
limit_text Nodes = decimal nodes_max ++ codes " nodes in the terms of a schema"
limit_text Height = decimal height_max ++ codes " levels in a conjunct"

abbrev pub offence_details : Offence → List Detail
offence_details (not_declared x) = detail (codes "name") x
offence_details (already_defined x) = detail (codes "name") x
offence_details (not_a_schema x) = detail (codes "name") x
offence_details (local_twice x) = detail (codes "name") x
offence_details (mismatch x y) = detail (codes "left") (sort_text x) ++ detail (codes "right") (sort_text y)
offence_details (unfit n f) = detail (codes "needed") (type_text n) ++ detail (codes "found") (type_text f)
offence_details no_members = []
offence_details (misplaced n z) = detail (codes "found") (sort_text z)
offence_details (clash x t u) = detail (codes "component") x ++ (detail (codes "left") (type_text t) ++ detail (codes "right") (type_text u))
offence_details (too_large l) = detail (codes "limit") (limit_text l)

-- what is remarked on an offence: the term that offends, by its place; a name like the missing one; both, with a symbol that is meant; or, by its line, an earlier paragraph that would declare it and has a fault itself
pub data Remark : Type 0 where
  no_remark : Remark
  term : (span : Span) → Remark
  like : (name : List ℕ) → Remark
  meant : (span : Span) → (symbol : List ℕ) → Remark
  lost : (line : ℕ) → Remark

-- what is reported beside an offence: a remark, and how many faults come of it, with the lines of the first and the last of them
pub record Aside : Type 0 where
  pub remark : Remark
  pub causes : Causes

abbrev pub no_causes : Causes
no_causes = record { count = 0; first = 0; last = 0 }

abbrev pub nothing : Aside
nothing = record { remark = no_remark; causes = no_causes }

-- how many bytes of a term are quoted at most
abbrev pub width : ℕ
width = 60

-- the longest front of so many bytes or fewer that ends before a blank; where there is none, all that is quoted at most
unfoldable pub front_of_words : ℕ → List ℕ → List ℕ
front_of_words zero text = take width text
front_of_words (suc n) text = if get_or text (suc n) 0 == 32 then take (suc n) text else front_of_words n text

abbrev pub shortened : List ℕ → List ℕ
shortened text = if nat_le (length text) width then text else front_of_words width text ++ codes " .."

-- the lines of a part of a source that goes over more than one
abbrev pub line_range : (first last : ℕ) → List Detail
line_range first last = if first == last then [] else detail (codes "lines") (decimal first ++ codes " to " ++ decimal last)

abbrev pub lines_details : (source : List ℕ) → Span → List Detail
lines_details source s = line_range (line_at source s.start) (line_at source s.stop)

abbrev pub term_details : (source : List ℕ) → Span → List Detail
term_details source s = detail (codes "term") (shortened (quoted source s)) ++ lines_details source s

-- the term comes before what is wrong with it, other things after that
abbrev pub before : (source : List ℕ) → Remark → List Detail
before source (term s) = term_details source s
before source (meant s symbol) = term_details source s
before source _ = []

abbrev pub after : Remark → List Detail
after (like name) = detail (codes "like") name
after (meant s symbol) = detail (codes "like") symbol
after (lost line) = detail (codes "declared at") (decimal line ++ codes ", in a paragraph with a fault")
after _ = []

abbrev pub counted_faults : ℕ → List ℕ
counted_faults n = if n == 1 then codes "1 fault" else decimal n ++ codes " faults"

abbrev pub lines_text : (first last : ℕ) → List ℕ
lines_text first last = if first == last then codes ", line " ++ decimal first else codes ", lines " ++ decimal first ++ codes " to " ++ decimal last

-- how many faults come of this one, if any do, and where they are
abbrev pub causes_details : Causes → List Detail
causes_details c = if c.count == 0 then [] else detail (codes "causes") (counted_faults c.count ++ lines_text c.first c.last)

abbrev pub beside : (source : List ℕ) → Aside → List Detail → List Detail
beside source aside details = before source aside.remark ++ details ++ after aside.remark ++ causes_details aside.causes

abbrev pub type_fault_message : (details : Bool) → (source : List ℕ) → Fault → Aside → Message
type_fault_message details source fault aside =
    with_details details (Line (line_at source fault.span.start)) (type_fault_text (kind_of fault.offence)) (beside source aside (offence_details fault.offence))

-- a fault, and what is reported beside it
pub record Reported : Type 0 where
  pub fault : Fault
  pub aside : Aside

-- the messages of these faults, in their order, each with something beside it
abbrev pub AreFaultMessages : (details : Bool) → (source : List ℕ) → List Fault → List Message → Type 0
AreFaultMessages details source faults ms =
    (rs : List Reported) × (map (λ r. r.fault) rs ≡ faults) × (ms ≡ map (λ r. type_fault_message details source r.fault r.aside) rs)

-- ---- faults of the text

-- the command that ends a box is not reported
abbrev pub symbol_text : List ℕ → List ℕ
symbol_text symbol = if starts_with nat_eq symbol (codes "\\end{") then codes "end of the box" else symbol

-- a command; without the byte after its backslash, where that is not printed
abbrev pub command_text : List ℕ → List ℕ
command_text [] = []
command_text (a ∷ []) = a ∷ []
command_text (a ∷ b ∷ []) = if is_ascii_graphic b then a ∷ b ∷ [] else a ∷ []
command_text (a ∷ b ∷ c ∷ text) = a ∷ b ∷ c ∷ text

-- a byte that is printed, or its number
abbrev pub byte_text : ℕ → List ℕ
byte_text b = if is_ascii_graphic b then b ∷ [] else decimal b

-- what more than one byte is, by the first: a character outside ASCII, or a command
abbrev pub bad_word : ℕ → List ℕ
bad_word b = if nat_lt b 128 then codes "symbol" else codes "character"

-- of a byte or character that begins no piece, or of a command after which something is missing
abbrev pub byte_details : List ℕ → List Detail
byte_details [] = []
byte_details (b ∷ []) = detail (codes "byte") (byte_text b)
byte_details (b ∷ c ∷ text) = detail (bad_word b) (b ∷ c ∷ text)

-- the symbols that a fault of the text is about, as they are spelled, with the place of the second; what is meant by the first; the part of the text that lacks a separator, if it goes over a line end; where one reads what to write; and what further symbols are left out, with their places
pub record Cited : Type 0 where
  pub symbol : List ℕ
  pub other : List ℕ
  pub span : Span
  pub like : List ℕ
  pub across : Span
  pub entry : List ℕ
  pub others : List (List ℕ × Span)

abbrev pub located : (source symbol : List ℕ) → Span → List ℕ
located source symbol s = symbol ++ codes ", line " ++ decimal (line_at source s.start)

-- at what a box shows that it is not closed
abbrev pub closing_details : (source other : List ℕ) → Span → List Detail
closing_details source [] s = detail (codes "closed by") (codes "the end of the text")
closing_details source (c ∷ other) s = detail (codes "closed by") (located source (c ∷ other) s)

-- a bracket that is not closed, where there is one
abbrev pub open_details : (source bracket : List ℕ) → Span → List Detail
open_details source [] s = []
open_details source (c ∷ bracket) s = detail (codes "open") (located source (c ∷ bracket) s)

abbrev pub unexpected_details : (source : List ℕ) → Cited → List Detail
unexpected_details source about =
    detail_if_any (codes "symbol") (symbol_text about.symbol) ++ open_details source about.other about.span ++ detail_if_any (codes "like") about.like ++ lines_details source about.across

-- `A; B; C`
abbrev pub and_other : List ℕ → List ℕ → List ℕ
and_other [] other = other
and_other (c ∷ text) other = (c ∷ text) ++ codes "; " ++ other

abbrev pub others_text : (source : List ℕ) → List (List ℕ × Span) → List ℕ
others_text source others = fold (λ text o. and_other text (located source o.0 o.1)) [] others

-- what else of the same kind the text has
abbrev pub others_details : (source : List ℕ) → Cited → List Detail
others_details source about = detail_if_any (codes "see") about.entry ++ detail_if_any (codes "also") (others_text source about.others)

abbrev pub text_details : (source : List ℕ) → TextFaultKind → Cited → List Detail
text_details source BadByte about = byte_details about.symbol
text_details source UnknownCommand about = detail_if_any (codes "command") (command_text about.symbol) ++ detail_if_any (codes "like") about.like ++ others_details source about
text_details source NotInProfile about = detail_if_any (codes "symbol") about.symbol ++ others_details source about
text_details source UnclosedBox about = closing_details source about.other about.span
text_details source Unexpected about = unexpected_details source about
text_details source NumberTooLarge about = detail (codes "limit") (decimal number_max)
text_details source TooDeep about = detail (codes "limit") (decimal height_limit ++ codes " levels")
text_details source TooLong about = detail (codes "limit") (decimal SOURCE_MAX ++ codes " bytes")
text_details source OutOfMemory about = []

-- a source that is too long has no line
abbrev pub place_of_fault : (source : List ℕ) → TextFault → At
place_of_fault source fault = elim fault.kind [ TooLong ↦ File | _ ↦ Line (line_at source fault.span.start) ]

abbrev pub text_fault_message : (details : Bool) → (source : List ℕ) → TextFault → (about : Cited) → Message
text_fault_message details source fault about = with_details details (place_of_fault source fault) (text_fault_text fault.kind) (text_details source fault.kind about)

-- ---- schemas that are not finite

abbrev pub constant_text : Constant → List ℕ
constant_text True = codes "true"
constant_text False = codes "false"
constant_text Integers = codes "\\num"
constant_text Naturals = codes "\\nat"
constant_text Positives = codes "\\nat_1"

abbrev pub offender_text : List Defined → Offender → List ℕ
offender_text g (Name l place) = option_map_or (λ d. d.name) (slice_get g place) []
offender_text g (Symbol l c) = constant_text c

-- this is the name of a schema that has no such component
abbrev pub LacksComponent : List Defined → (component name : List ℕ) → Type 0
LacksComponent g component name =
    (place : ℕ) × (a : Schema) × (first_named (λ d. d.name) name g ≡ Some (place, record { name = name; definition = schema a })) × (first_named (λ c. c.name) component a.comps ≡ None)

-- the name of such a schema, or nothing
abbrev pub IsWithout : List Defined → (component side : List ℕ) → Type 0
IsWithout g component [] = Unit {0}
IsWithout g component (c ∷ side) = LacksComponent g component (c ∷ side)

-- what is reported beside the cause: of a component that nothing bounds, a schema that does not declare it, if there is one
abbrev pub IsReportedBeside : List Defined → NotFinite → (side : List ℕ) → Type 0
IsReportedBeside g (Unbounded l name) side = IsWithout g name side
IsReportedBeside g (Offends o) side = side ≡ []

abbrev pub cause_details : List Defined → NotFinite → (side : List ℕ) → List Detail
cause_details g (Unbounded l name) side = detail (codes "component") name ++ detail_if_any (codes "not declared in") side
cause_details g (Offends o) side = detail (codes "name") (offender_text g o)

-- what else makes it finite, if that does
abbrev pub mending_details : (mended : Bool) → List Detail
mending_details mended = if mended then detail (codes "or") (codes "--numbers N") else []

abbrev pub not_finite_message : (details : Bool) → (source : List ℕ) → List Defined → NotFinite → (side : List ℕ) → (mended : Bool) → Message
not_finite_message details source g cause side mended =
    with_details details (Line (line_at source (cause_span cause).start)) not_finite_text (cause_details g cause side ++ mending_details mended)
