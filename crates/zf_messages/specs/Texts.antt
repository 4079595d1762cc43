-- The messages of faults and of refusals, without details.
use Rattle.std.specs.Prelude.{ℕ, Bool, if◌then◌else◌, List, [], ◌++◌, codes, decimal}
use Rattle.zf_scan.specs.declared.fault.TextFaultKind.{TextFaultKind}
use Rattle.zf_scan.specs.declared.fault.TextFaultKind.TheVariants.{BadByte, UnknownCommand, NotInProfile, UnclosedBox, Unexpected, NumberTooLarge, TooDeep, TooLong, OutOfMemory}
use Rattle.zf_messages.specs.declared.message.At.TheVariants.{Nowhere}
use Rattle.zf_messages.specs.declared.message.Message.{Message}
use Rattle.zf_messages.specs.Messages.{detail_if_any, message, plain}
use Rattle.zf_term.specs.declared.fault.TypeFaultKind.{TypeFaultKind}
use Rattle.zf_term.specs.declared.fault.TypeFaultKind.TheVariants.{NotDeclared, AlreadyDefined, Mismatch, NotASet, NotANumber, NotARelation, NotAPredicate, NotAnExpression, ComponentClash, NotASchema, LocalTwice, TooLarge}

abbrev pub text_fault_text : TextFaultKind → List ℕ
text_fault_text BadByte = codes "byte not in the markup"
text_fault_text UnknownCommand = codes "unknown command"
text_fault_text NotInProfile = codes "not in this profile"
text_fault_text UnclosedBox = codes "box is not closed"
text_fault_text Unexpected = codes "unexpected symbol"
text_fault_text NumberTooLarge = codes "number too large"
text_fault_text TooDeep = codes "nested too deeply"
text_fault_text TooLong = codes "source too long"
text_fault_text OutOfMemory = codes "out of memory"

abbrev pub type_fault_text : TypeFaultKind → List ℕ
type_fault_text NotDeclared = codes "name not declared"
type_fault_text AlreadyDefined = codes "name already defined"
type_fault_text Mismatch = codes "types differ"
type_fault_text NotASet = codes "a set is needed"
type_fault_text NotANumber = codes "a number is needed"
type_fault_text NotARelation = codes "a relation is needed"
type_fault_text NotAPredicate = codes "a predicate is needed"
type_fault_text NotAnExpression = codes "an expression is needed"
type_fault_text ComponentClash = codes "component has two types"
type_fault_text NotASchema = codes "a schema is needed"
type_fault_text LocalTwice = codes "variable declared twice"
type_fault_text TooLarge = codes "too large"

abbrev pub not_finite_text : List ℕ
not_finite_text = codes "not finite"

-- ---- what is wrong with the words of a command

abbrev pub about_words : (text : List ℕ) → Message
about_words text = plain Nowhere (codes "zf: " ++ text)

abbrev pub no_component : (schema component : List ℕ) → Message
no_component schema component = about_words (schema ++ codes " has no component " ++ component)

abbrev pub numbers_too_large : Message
numbers_too_large = about_words (codes "numbers are too large")

abbrev pub not_given : (name : List ℕ) → Message
not_given name = about_words (name ++ codes " is not a given set")

abbrev pub size_twice : (name : List ℕ) → Message
size_twice name = about_words (codes "two sizes for " ++ name)

abbrev pub size_too_large : (name : List ℕ) → Message
size_too_large name = about_words (codes "size of " ++ name ++ codes " is too large")

-- with details, what was expected
abbrev pub expecting : (details : Bool) → (text expected : List ℕ) → Message
expecting details text expected = message Nowhere (codes "zf: " ++ text) (if details then detail_if_any (codes "expected") expected else [])

-- the place, from 0, of the first byte of what does not fit, and what was expected there
abbrev pub not_a_binding : (details : Bool) → (misfit : ℕ × List ℕ) → Message
not_a_binding details misfit = expecting details (codes "after: not a binding at byte " ++ decimal misfit.0) misfit.1

abbrev pub not_components : (place : ℕ) → Message
not_components place = about_words (codes "only: not components at byte " ++ decimal place)

abbrev pub not_held : (details : Bool) → (misfit : ℕ × List ℕ) → Message
not_held details misfit = expecting details (codes "with: not a binding at byte " ++ decimal misfit.0) misfit.1

-- ---- of a schema

abbrev pub declared_out : (name : List ℕ) → Message
declared_out name = plain Nowhere (codes "out of bounds in the declaration of " ++ name)
