-- Tests of leaves on a row: for private contracts alone.
use Rattle.std.specs.Prelude.{◌≡◌, ◌⊎◌, ℕ, ◌+◌, ◌<◌, List, [], ◌∷◌, ◌++◌, length, slice_index}
use Rattle.zf_plan.specs.Prelude.{Truth, True, False, Out, Conjuncts, AreWithin, cut, IsSeen, picked, Seen}

-- each of these is a leaf that needs k values
abbrev pub AreLeaves : {V : Type 0} → Conjuncts V → ℕ → List ℕ → Type 0
AreLeaves l k leaves = (i : ℕ) → i < length leaves → (slice_index leaves i < l.number) × (l.due (slice_index leaves i) ≡ k)

-- the first i leaves are not False on the row; with what was found before they are True, or Out
abbrev pub AreNotFalse : {V : Type 0} → Conjuncts V → List V → List ℕ → ℕ → Type 0
AreNotFalse l row leaves i = (k : ℕ) → k < i → l.says (slice_index leaves k) row True ⊎ l.says (slice_index leaves k) row Out

abbrev pub ArePassed : {V : Type 0} → Conjuncts V → List V → List ℕ → Truth → ℕ → Truth → Type 0
ArePassed l row leaves before i False = ⊥
ArePassed l row leaves before i True = (before ≡ True) × ((k : ℕ) → k < i → l.says (slice_index leaves k) row True)
ArePassed l row leaves before i Out = AreNotFalse l row leaves i × ((before ≡ Out) ⊎ (k : ℕ) × (k < i) × l.says (slice_index leaves k) row Out)

-- n leaves were tested: up to the first that is False, or all, and these and what was found before come to this truth
unfoldable pub Tests : {V : Type 0} → Conjuncts V → List V → List ℕ → Truth → Truth → ℕ → Type 0
Tests l row leaves before False n = (i : ℕ) × (n ≡ i + 1) × (i < length leaves) × AreNotFalse l row leaves i × l.says (slice_index leaves i) row False
Tests l row leaves before True n = (n ≡ length leaves) × ArePassed l row leaves before n True
Tests l row leaves before Out n = (n ≡ length leaves) × ArePassed l row leaves before n Out

-- they were tested so, and counted
abbrev pub IsTested : {V : Type 0} → Conjuncts V → List V → List ℕ → Truth → Truth → ℕ → ℕ → Type 0
IsTested l row leaves before t old new = (n : ℕ) × Tests l row leaves before t n × (new ≡ cut (old + n))

-- of the first n leaves, which need one value more than those at these places: False, where one of them is, and True, where all are
abbrev pub IsTruthOfLeaves : {V : Type 0} → Conjuncts V → List V → List ℕ → ℕ → Truth → Type 0
IsTruthOfLeaves l row leaves n False = (k : ℕ) × (k < n) × l.says (slice_index leaves k) row False
IsTruthOfLeaves l row leaves n True = (k : ℕ) → k < n → l.says (slice_index leaves k) row True
IsTruthOfLeaves l row leaves n Out = ⊥

-- what is known of them with each value of the next range
abbrev pub AreSeenOf : {V : Type 0} → Conjuncts V → List (List V) → List ℕ → List ℕ → ℕ → Seen → Type 0
AreSeenOf l ranges places leaves n seen = (i : ℕ) (t : Truth) → AreWithin ranges (places ++ i ∷ []) → IsSeen seen i t → IsTruthOfLeaves l (picked ranges (places ++ i ∷ [])) leaves n t
