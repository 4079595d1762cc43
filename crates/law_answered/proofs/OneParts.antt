-- What some components have in events is shown in one way, and in some way.
use Rattle.law_answered.proofs.Prelude.{◌≡◌, List, None, Option, subst, ℕ, Event, ComesAfter, value_order, Value, Defined, Schema, Environment, AreClear, spellings, Portion, HasEvents, Status, IsNamedRow, NamesParts, Request, ShowsParts, Wording, AllPairs-unique, AreParts, ArePartsWritten, AreRanges, HasParts, Part, comps_at, exact, one_list_of_parts, part_wording, some_list, some_list_of_parts, total-law}
use Rattle.zf_parts.proofs.Telling.{one_text_of_parts, some_text_of_parts}
use Rattle.law_answered.proofs.NamedParts.{one_places}
use Rattle.law_answered.proofs.OneEnding.{never_both}
use Rattle.law_answered.proofs.OneSearch.{listed_in, one_named_row}

-- ---- all events

-- there is one list of them
one_whole_list : (e : Environment) (a : Schema) (p : Portion) (xs ys : List (Event Value)) → HasEvents e a p None xs → HasEvents e a p None ys → xs ≡ ys
one_whole_list e a p xs ys h k =
    let other = listed_in e a p h.ranges h.of_components None ys k in
    let one = h.listed in
    AllPairs-unique (λ (x y : Event Value). ComesAfter value_order x.row y.row) (λ x y u v. never_both value_order total-law exact x.row y.row u v) xs ys one.ascending other.ascending
    (λ z m. (other.members z).1 ((one.members z).0 m)) (λ z m. (one.members z).1 ((other.members z).0 m))

-- and some
pub some_whole_list : (e : Environment) (a : Schema) (ranges : List (List Value)) (p : Portion) → AreRanges e a.comps p.held ranges → (events : List (Event Value)) × HasEvents e a p None events
some_whole_list e a ranges p are =
    let all = some_list e a ranges p are in
    let them = all.1 in
    let listed = them.listed in (
      all.0,
      record {
        ranges = them.ranges;
        of_components = them.of_components;
        listed = record { ascending = listed.ascending; members = λ x. (λ m. ((listed.members x).0 m, tt), λ i. (listed.members x).1 i.0) };
      },
    )

-- ---- the answer

one_at : (w : Wording Value) (limit : Option ℕ) (e : Environment) (a : Schema) (p : Portion) (places : List ℕ) (after : Option (List Value)) (xs ys : List Part) (one two : List ℕ) (s t : Status)
    → HasParts e a p places after xs → HasParts e a p places after ys → ArePartsWritten w limit xs one s → ArePartsWritten w limit ys two t → (one ≡ two) × (s ≡ t)
one_at w limit e a p places after xs ys one two s t h k u v =
    let events = one_whole_list e a p h.events k.events h.listed k.listed in
    let parts = one_list_of_parts places after k.events xs ys (subst (λ es. AreParts places after es xs) events h.are) k.are in
    one_text_of_parts w limit ys one two s t (subst (λ ps. ArePartsWritten w limit ps one s) parts u) v

pub one_shown_parts : (names : List ℕ) (r : Request) (g : List Defined) (a : Schema) (e : Environment) (p : Portion) (one two : List ℕ) (s t : Status) → AreClear (spellings e.globals) e.sizes
    → ShowsParts names r g a e p one s → ShowsParts names r g a e p two t → (one ≡ two) × (s ≡ t)
one_shown_parts names r g a e p one two s t clear x y =
    let places = one_places a.comps names x.places y.places x.of_names y.of_names in
    let named = subst (λ ps. IsNamedRow e (comps_at a.comps ps) r.after x.after) places x.comes_after in
    let after = one_named_row e (comps_at a.comps y.places) r.after x.after y.after clear named y.comes_after in
    let listed = subst (λ row. HasParts e a p y.places row x.parts) after (subst (λ ps. HasParts e a p ps x.after x.parts) places x.listed) in
    let ends = subst (λ ps. ArePartsWritten (part_wording r.format (spellings g) (comps_at a.comps ps) a.comps) r.limit x.parts one s) places x.ends in
    one_at (part_wording r.format (spellings g) (comps_at a.comps y.places) a.comps) r.limit e a p y.places y.after x.parts y.parts one two s t listed y.listed ends y.ends

pub some_shown_parts : (names : List ℕ) (r : Request) (g : List Defined) (a : Schema) (e : Environment) (p : Portion) (ranges : List (List Value)) (places : List ℕ) (after : Option (List Value))
    → AreRanges e a.comps p.held ranges → NamesParts a.comps names places → IsNamedRow e (comps_at a.comps places) r.after after → (text : List ℕ)
    × (status : Status) × ShowsParts names r g a e p text status
some_shown_parts names r g a e p ranges places after are named comes =
    let w = part_wording r.format (spellings g) (comps_at a.comps places) a.comps in
    let all = some_whole_list e a ranges p are in
    let listed = all.1.listed in
    let parts = some_list_of_parts places after all.0 listed.ascending in
    let text = some_text_of_parts w r.limit places after all.0 parts.0 (λ x m f. let i = (listed.members x).0 m in i.0.not_false f) parts.1 in (
      text.0,
      text.1,
      record {
        places = places;
        after = after;
        parts = parts.0;
        of_names = named;
        comes_after = comes;
        listed = record { events = all.0; listed = all.1; are = parts.1 };
        ends = text.2;
      },
    )
