pub mod Prelude
pub mod Expressions
pub mod SchemaOffences
pub mod Checking
pub mod SchemaLaws
pub mod Refusing
pub use Rattle.zf_schema.specs.Expressions.{AddsAll, both_span, Constrains, ConstrainsOne, Declares, DeclaresOne, inside, IsSchema, IsText, outside, Refers, TakesAll}
pub use Rattle.zf_schema.specs.SchemaOffences.{AnyByRecursion, CantRefer, IsNoSchema, name_span, OffendsAfter, OffendsAlone, OffendsConjuncts, OffendsDecls, OffendsNames, OffendsPredicates, OffendsRef, OffendsSchema, OffendsText, OneConstrainsTooMuch, OneOffendsAfter, StopsEither}
pub use Rattle.zf_schema.specs.Checking.{a_box, a_paragraph, abbreviated, ChecksAll, ChecksOne, Constructs, Defines, DefinesParagraph, Gives, IsChecked, IsNew, IsTaken, Item, items, items_in, next_number, OffendsConstructors, OffendsGiven, OffendsItem, OffendsParagraph, with_global}
pub use Rattle.zf_schema.specs.SchemaLaws.{AreDefinedOnce, CompsJoined, CompsOfEither, CompsOnce, DecorationRenames, elements, FirstKept, GlobalsKept, HasCompsOnce, HaveCompsOnce, NamesOnce, new_comps, NoItemOffence, NoSchemaOffence, OneCheck, OneDefinition, OneSchema, PlacesCarried, sets_found, sets_named, SetsJoined, SetsOfEither, signature, StandsAt, type_found, type_named, TypesJoined, TypesOfEither, unless_found, XiEquates}
pub use Rattle.zf_schema.specs.Refusing.{CantAdd, CantConjoin, CantConstrain, CantDeclare, CantTake, either_span, IsNamed, LacksSchema, over, Refuses}
