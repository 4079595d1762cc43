-- Words that are refused ask for no work.
use Rattle.zf_command.proofs.Prelude.{◌∙◌, ◌∷◌, ◌≡◌, [], arith, codes, inl, inr, List, None, Option, Some, subst, suc, sym, zero, ℕ, AllZip, Contains, first_of, IsAmong, Row, Text, HasBadLimit, HasBadNumber, HasBadNumbers, HasBadSetting, IsAsked, IsExploration, IsJob, IsLimit, IsNumberOf, IsRefused, IsSetting, IsShown, ReadsSize, Refuses, RefusesExploration, RefusesShown, size_words, values_of, words_after, Work, Size, Bool, false, refl, true}
use Rattle.std.proofs.lemmas.Bool.{true≢false}
use Rattle.std.proofs.lemmas.Option.{same_Some}
use Rattle.std.proofs.lemmas.Slice.Eq.{bytes_eq-Decides}
use Rattle.std.specs.Str.{bytes_eq}
use Rattle.zf_command.specs.declared.job.Job.{Job}
use Rattle.zf_command.specs.declared.job.Exploration.{Exploration}
use Rattle.zf_command.specs.declared.job.Request.{Request}
use Rattle.zf_command.specs.declared.job.Setting.{Setting}
use Rattle.zf_command.specs.declared.limit.TheConstants.{LIMIT_MAX, STATES_MAX}
use Rattle.zf_command.specs.declared.job.Job.TheVariants.{Check, Reach, Show, Why}

-- each word of which the sizes are read is one
size_of : (words : List Text) (sizes : List Size) (word : Text) → AllZip ReadsSize words sizes → Contains words word → (size : Size) × ReadsSize word size
size_of [] sizes word all (k, h, e) = absurd (omega arith)
size_of (w ∷ words) [] word all m = absurd all
size_of (w ∷ words) (z ∷ sizes) word all (zero, h, e) = (z, subst (λ v. ReadsSize v z) e all.0)
size_of (w ∷ words) (z ∷ sizes) word all (suc k, h, e) = size_of words sizes word all.1 (k, omega arith, e)

-- a limit that is read is not bad
no_bad_limit : (most : ℕ) (given : Option Text) (limit : Option ℕ) → HasBadLimit most given → IsLimit most given limit → ⊥
no_bad_limit most None limit bad is = bad
no_bad_limit most (Some digits) None bad is = is
no_bad_limit most (Some digits) (Some n) bad is = bad n is

-- a number that is read is a numeral
no_bad_number : (given : Option Text) (number : Option ℕ) → HasBadNumber given → IsNumberOf given number → ⊥
no_bad_number None number bad is = bad
no_bad_number (Some digits) None bad is = is
no_bad_number (Some digits) (Some n) bad is = bad is.0

-- nor are the greatest number and the size bad
no_bad_numbers : (rows : List Row) (numbers size : Option ℕ) → HasBadNumbers rows
    → IsNumberOf (first_of (codes "numbers") rows) numbers → IsNumberOf (first_of (codes "size") rows) size → ⊥
no_bad_numbers rows numbers size (inl bad) numbered shared = no_bad_number (first_of (codes "numbers") rows) numbers bad numbered
no_bad_numbers rows numbers size (inr bad) numbered shared = no_bad_number (first_of (codes "size") rows) size bad shared

-- sizes that are read are not bad
no_bad_setting : (words : List Text) (rows : List Row) (s : Setting) → HasBadSetting words rows → IsSetting words rows s → ⊥
no_bad_setting words rows s (inl (word, among, bad)) (read, numbered, shared) =
    let size = size_of words s.sizes word read among in bad size.0 size.1
no_bad_setting words rows s (inr bad) (read, numbered, shared) = no_bad_numbers rows s.numbers s.size bad numbered shared

not_false : (b : Bool) → b ≡ true → b ≡ false → ⊥
not_false b is is_not = cc

not_explored : (rows : List Row) (x : Exploration) → RefusesExploration rows → IsExploration rows x → ⊥
not_explored rows x (inl none) ((of_state, of_init, operations, some, of_sought), set, bound, drawn, detailed, formed, no_clash) = some (operations ∙ none)
not_explored rows x (inr (inl bad)) (named, set, bound, drawn, detailed, formed, no_clash) = no_bad_setting (size_words (words_after rows)) rows x.setting bad set
not_explored rows x (inr (inr (inl bad))) (named, set, bound, drawn, detailed, formed, no_clash) = no_bad_limit STATES_MAX (first_of (codes "limit") rows) x.limit bad bound
not_explored rows x (inr (inr (inr clash))) (named, set, bound, drawn, detailed, formed, no_clash) = not_false _ clash no_clash

not_shown : (rows : List Row) (r : Request) → RefusesShown rows → IsShown rows r → ⊥
not_shown rows r (inl bad) (after, bound, counted, only, no_clash) = no_bad_limit LIMIT_MAX (first_of (codes "limit") rows) r.limit bad bound
not_shown rows r (inr clash) (after, bound, counted, only, no_clash) = not_false _ clash no_clash

-- names that a test tells apart differ
differ : (x y : Text) → bytes_eq x y ≡ false → x ≡ y → ⊥
differ x y apart same = true≢false (sym ((bytes_eq-Decides x y).1 same) ∙ apart)

not_both : (name : Text) (rows : List Row) (job : Job) → Refuses name rows → IsJob name rows job → ⊥
not_both name rows (Check types details format) (inl (is, clash)) (called, (typed, detailed, formed, no_clash)) = not_false _ clash no_clash
not_both name rows (Check types details format) (inr (inl (is, bad))) (called, asked) = differ (codes "reach") (codes "check") refl (sym is ∙ called)
not_both name rows (Check types details format) (inr (inr (other, no_reach, bad))) (called, asked) = other called
not_both name rows (Show r) (inl (is, clash)) (no_check, no_reach, no_why, asked, shown) = no_check is
not_both name rows (Show r) (inr (inl (is, bad))) (no_check, no_reach, no_why, asked, shown) = no_reach is
not_both name rows (Show r) (inr (inr (other, no_reach, inl bad))) (no_check, not_reach, no_why, (named, set, held_so, told, formed), shown) = no_bad_setting
    (values_of (codes "NAME=SIZE") rows) rows r.setting bad set
not_both name rows (Show r) (inr (inr (other, no_reach, inr (no_why, bad)))) (no_check, not_reach, is_no_why, asked, shown) = not_shown rows r bad shown
not_both name rows (Why r) (inl (is, clash)) (called, asked, plain) = differ (codes "check") (codes "why") refl (sym is ∙ called)
not_both name rows (Why r) (inr (inl (is, bad))) (called, asked, plain) = differ (codes "reach") (codes "why") refl (sym is ∙ called)
not_both name rows (Why r) (inr (inr (other, no_reach, inl bad))) (called, (named, set, held_so, told, formed), plain) = no_bad_setting (values_of (codes "NAME=SIZE") rows) rows r.setting bad set
not_both name rows (Why r) (inr (inr (other, no_reach, inr (no_why, bad)))) (called, asked, plain) = no_why called
not_both name rows (Reach x) (inl (is, clash)) (called, asked) = differ (codes "reach") (codes "check") refl (sym called ∙ is)
not_both name rows (Reach x) (inr (inl (is, bad))) (called, asked) = not_explored rows x bad asked
not_both name rows (Reach x) (inr (inr (other, no_reach, bad))) (called, asked) = no_reach called

pub refused_ask_no_work : (words : List Text) (file : Text) (job : Job) → IsRefused words → IsAsked words (Work file job) → ⊥
refused_ask_no_work words file job (inl (cause, among, memory, help, version)) (name, rows, are, asks) = subst (IsAmong cause) are.0 among
refused_ask_no_work words file job (inr (name, rows, are, refuses)) (other, others, matched, asks) =
    let same : (name, rows) ≡ (other, others) = same_Some (name, rows) (other, others) (sym are.1 ∙ matched.1) in
    not_both other others job (subst (λ (p : Text × List Row). Refuses p.0 p.1) same refuses) asks.1
