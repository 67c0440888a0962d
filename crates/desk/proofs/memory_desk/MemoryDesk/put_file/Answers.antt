use Rattle.std.proofs.Common.{◌≡◌, List, ℕ, Bool, true, false, Option, Some, refl, ap, ◌∙◌, Vec}
use mathlib.Core.Path.{fun_ext}
use Rattle.std.specs.Option.{option_map}
use Rattle.std.specs.Prelude.{if◌then◌else◌}
use Rattle.std.specs.Str.{bytes_eq}
use Rattle.std.specs.String.{string_bytes}
use Rattle.std.specs.BTreeMap.{get_by_text}
use Rattle.std.specs.declared.alloc.Global.{Global}
use Rattle.std.proofs.lemmas.Map.Text.{btree_map_updates_text}
use Rattle.desk.specs.MemoryDesk.{memory_state}
use Rattle.desk.proofs.memory_desk.MemoryDesk.put_file.Goals as goal

-- the bytes of what is found, by cases on where the name is the one that was put
found_bytes : (same : Bool) (text : Vec ℕ Global) (before : Option (Vec ℕ Global)) → option_map (λ v. v.items) (if same then Some text else before) ≡ (if same then Some text.items else option_map (λ v. v.items) before)
found_bytes true text before = refl
found_bytes false text before = refl

pub returns-clause-ok : goal.returns-clause-ok
returns-clause-ok c =
    let before = c.args.self.now.files in
    let after = c.insert.new.self in
    let text = c.in_ok-bytes.bytes in
    let key = string_bytes c.in_ok-name.name in
    let each : (other : List ℕ) → option_map (λ v. v.items) (get_by_text after other) ≡ (if bytes_eq c.args.name.now other then Some c.args.bytes.now else option_map (λ v. v.items) (get_by_text before other)) = λ other.
    ap (option_map (λ v. v.items)) (btree_map_updates_text key before after (Some text) c.in_ok-insert.ensures.updates other) ∙ found_bytes (bytes_eq key other) text (get_by_text before other) ∙ ap (λ name. if bytes_eq name other then Some text.items else option_map (λ v. v.items) (get_by_text before other)) c.in_ok-name.ensures.ok ∙ ap (λ items. if bytes_eq c.args.name.now other then Some items else option_map (λ v. v.items) (get_by_text before other)) c.in_ok-bytes.ensures.items in
    ap (λ find. record (memory_state c.args.self.now) { files = Some find }) (fun_ext each)
