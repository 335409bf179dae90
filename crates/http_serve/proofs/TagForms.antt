-- How an entity tag is written.
use Rattle.std.proofs.Common.{◌≡◌, ◌++◌, arith}
use Rattle.std.proofs.lemmas.Fmt.{decimal_digit}
use Rattle.std.specs.Prelude.{codes}
use Rattle.http_serve.specs.Tags.{tag_text}

written : tag_text (record { version = 3; change = 4; length = 5 }) ≡ codes "\"3-4-5\""
unfolding tag_text
written =
    let three = decimal_digit 3 (omega arith) in
    let four = decimal_digit 4 (omega arith) in
    let five = decimal_digit 5 (omega arith) in
    λ i. codes "\"" ++ three i ++ codes "-" ++ four i ++ codes "-" ++ five i ++ codes "\""
