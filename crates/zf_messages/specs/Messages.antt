-- Messages, and how they are written: as lines, or each as an object on a line of its own.
use Rattle.std.specs.Prelude.{ℕ, List, [], ◌∷◌, ◌++◌, codes, decimal}
use Rattle.std.specs.List.{flat_map}
use Rattle.zf_format.specs.declared.format.Format.{Format}
use Rattle.zf_format.specs.declared.format.Format.TheVariants.{Lines, Objects}
use Rattle.zf_format.specs.{string_text}
use Rattle.zf_messages.specs.declared.message.At.{At}
use Rattle.zf_messages.specs.declared.message.At.TheVariants.{Nowhere, File, Line}
use Rattle.zf_messages.specs.declared.message.Detail.{Detail}
use Rattle.zf_messages.specs.declared.message.Message.{Message}

-- one detail, as a list
abbrev pub detail : (word text : List ℕ) → List Detail
detail word text = record { word = word; text = text } ∷ []

-- the same, of a text that may be missing
abbrev pub detail_if_any : (word text : List ℕ) → List Detail
detail_if_any word [] = []
detail_if_any word (c ∷ text) = detail word (c ∷ text)

abbrev pub message : At → (text : List ℕ) → List Detail → Message
message at text details = record { at = at; text = text; details = details }

-- without details
abbrev pub plain : At → (text : List ℕ) → Message
plain at text = message at text []

-- ---- as lines: `FILE:LINE: TEXT`, and each detail on a line of its own after four blanks

abbrev pub place_text : (file : List ℕ) → At → List ℕ
place_text file Nowhere = []
place_text file File = file ++ codes ": "
place_text file (Line n) = file ++ codes ":" ++ decimal n ++ codes ": "

abbrev pub detail_line : Detail → List ℕ
detail_line d = codes "    " ++ d.word ++ codes ": " ++ d.text ++ codes "\n"

abbrev pub message_lines : (file : List ℕ) → Message → List ℕ
message_lines file m = place_text file m.at ++ m.text ++ codes "\n" ++ flat_map detail_line m.details

-- ---- as objects

abbrev pub member : (name value : List ℕ) → List ℕ
member name value = string_text name ++ codes ": " ++ string_text value

abbrev pub place_members : (file : List ℕ) → At → List ℕ
place_members file Nowhere = []
place_members file File = member (codes "file") file ++ codes ", "
place_members file (Line n) = member (codes "file") file ++ codes ", \"line\": " ++ decimal n ++ codes ", "

abbrev pub detail_member : Detail → List ℕ
detail_member d = codes ", " ++ member d.word d.text

abbrev pub message_object : (file : List ℕ) → Message → List ℕ
message_object file m = codes "{" ++ place_members file m.at ++ member (codes "message") m.text ++ flat_map detail_member m.details ++ codes "}\n"

abbrev pub messages_text : Format → (file : List ℕ) → List Message → List ℕ
messages_text Lines file ms = flat_map (message_lines file) ms
messages_text Objects file ms = flat_map (message_object file) ms
