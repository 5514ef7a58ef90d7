use Rattle.std.proofs.Common.{◌≡◌, ◌++◌, ℕ, List, subst, ◌∙◌}
use Rattle.std.specs.Prelude.{OnOk, codes, decimal, string_bytes}
use Rattle.std.specs.Fmt.{signed_decimal}
use Rattle.page_statements.specs.Statement.{amount, amounts}
use Rattle.page_statements.proofs.Columns.{amount_line, five_lines, right_digits, right_number}
use Rattle.page_statements.proofs.page.put_amounts.Goals as goal

pub returns : goal.returns
returns c =
    let s = c.args.sheet.now in
    let old = string_bytes c.args.out.now in
    let name = codes "account " ++ s.account ++ codes "\n" in
    let named : string_bytes c.writeln.new.self ≡ old ++ name = rw c.as_str.ensures at c.in_ok-writeln.ensures.bytes in
    let granted : string_bytes c.writeln-2.new.self ≡ string_bytes c.writeln.new.self ++ amount (codes "granted") (decimal s.granted) =
    (rw c.laid_out.ensures at c.in_ok-writeln-2.ensures.bytes) ∙ amount_line (string_bytes c.writeln.new.self) (codes "granted") _ (decimal s.granted) (right_digits 14 (decimal s.granted)) in
    let free : string_bytes c.writeln-3.new.self ≡ string_bytes c.writeln-2.new.self ++ amount (codes "free") (signed_decimal s.free) =
    (rw c.laid_out-2.ensures at c.in_ok-writeln-3.ensures.bytes) ∙ amount_line (string_bytes c.writeln-2.new.self) (codes "free") _ (signed_decimal s.free) (right_number 14 s.free) in
    let reserved : string_bytes c.writeln-4.new.self ≡ string_bytes c.writeln-3.new.self ++ amount (codes "reserved") (decimal s.reserved) =
    (rw c.laid_out-3.ensures at c.in_ok-writeln-4.ensures.bytes) ∙ amount_line (string_bytes c.writeln-3.new.self) (codes "reserved") _ (decimal s.reserved) (right_digits 14 (decimal s.reserved)) in
    let lines : string_bytes c.writeln-4.new.self ++ amount (codes "printed") (decimal s.printed) ≡ old ++ amounts s =
    rw (reserved, free, granted, named) (five_lines old name (amount (codes "granted") (decimal s.granted)) (amount (codes "free") (signed_decimal s.free)) (amount (codes "reserved") (decimal s.reserved)) (amount (codes "printed") (decimal s.printed))) in
    let P : List ℕ → Type 0 = λ text. OnOk c.writeln-5.result (string_bytes c.writeln-5.new.self ≡ text) in
    subst P (amount_line (string_bytes c.writeln-4.new.self) (codes "printed") _ (decimal s.printed) (right_digits 14 (decimal s.printed)) ∙ lines)
    (rw c.laid_out-4.ensures at c.writeln-5.ensures.bytes)
