-- Keywords and symbols.
use Rattle.std.proofs.Common.{refl}
use Rattle.std.specs.Prelude.{codes}
use Rattle.sql_parse.specs.declared.token_kinds.TokenKind.TheVariants as k
use Rattle.sql_parse.specs.Lex.{token, same_kind, keyword}
use Rattle.sql_parse.proofs.Pieces.{IsToken}

pub dot_token : IsToken k.Dot (codes ".")
unfolding token same_kind
dot_token = record { read = λ z. refl; bare = λ z. refl; same = refl }

pub open_token : IsToken k.Open (codes "(")
unfolding token same_kind
open_token = record { read = λ z. refl; bare = λ z. refl; same = refl }

pub close_token : IsToken k.Close (codes ")")
unfolding token same_kind
close_token = record { read = λ z. refl; bare = λ z. refl; same = refl }

pub comma_token : IsToken k.Comma (codes ",")
unfolding token same_kind
comma_token = record { read = λ z. refl; bare = λ z. refl; same = refl }

pub star_token : IsToken k.Star (codes "*")
unfolding token same_kind
star_token = record { read = λ z. refl; bare = λ z. refl; same = refl }

pub plus_token : IsToken k.Plus (codes "+")
unfolding token same_kind
plus_token = record { read = λ z. refl; bare = λ z. refl; same = refl }

pub minus_token : IsToken k.Minus (codes "-")
unfolding token same_kind
minus_token = record { read = λ z. refl; bare = λ z. refl; same = refl }

pub equal_token : IsToken k.Equal (codes "=")
unfolding token same_kind
equal_token = record { read = λ z. refl; bare = λ z. refl; same = refl }

pub not_equal_token : IsToken k.NotEqual (codes "<>")
unfolding token same_kind
not_equal_token = record { read = λ z. refl; bare = λ z. refl; same = refl }

pub less_token : IsToken k.Less (codes "<")
unfolding token same_kind
less_token = record { read = λ z. refl; bare = λ z. refl; same = refl }

pub less_equal_token : IsToken k.LessEqual (codes "<=")
unfolding token same_kind
less_equal_token = record { read = λ z. refl; bare = λ z. refl; same = refl }

pub greater_token : IsToken k.Greater (codes ">")
unfolding token same_kind
greater_token = record { read = λ z. refl; bare = λ z. refl; same = refl }

pub greater_equal_token : IsToken k.GreaterEqual (codes ">=")
unfolding token same_kind
greater_equal_token = record { read = λ z. refl; bare = λ z. refl; same = refl }

pub select_token : IsToken k.Select (codes "SELECT")
unfolding token keyword same_kind
select_token = record { read = λ z. refl; bare = λ z. refl; same = refl }

pub from_token : IsToken k.From (codes "FROM")
unfolding token keyword same_kind
from_token = record { read = λ z. refl; bare = λ z. refl; same = refl }

pub where_token : IsToken k.Where (codes "WHERE")
unfolding token keyword same_kind
where_token = record { read = λ z. refl; bare = λ z. refl; same = refl }

pub order_token : IsToken k.Order (codes "ORDER")
unfolding token keyword same_kind
order_token = record { read = λ z. refl; bare = λ z. refl; same = refl }

pub by_token : IsToken k.By (codes "BY")
unfolding token keyword same_kind
by_token = record { read = λ z. refl; bare = λ z. refl; same = refl }

pub asc_token : IsToken k.Asc (codes "ASC")
unfolding token keyword same_kind
asc_token = record { read = λ z. refl; bare = λ z. refl; same = refl }

pub desc_token : IsToken k.Desc (codes "DESC")
unfolding token keyword same_kind
desc_token = record { read = λ z. refl; bare = λ z. refl; same = refl }

pub limit_token : IsToken k.Limit (codes "LIMIT")
unfolding token keyword same_kind
limit_token = record { read = λ z. refl; bare = λ z. refl; same = refl }

pub offset_token : IsToken k.Offset (codes "OFFSET")
unfolding token keyword same_kind
offset_token = record { read = λ z. refl; bare = λ z. refl; same = refl }

pub insert_token : IsToken k.Insert (codes "INSERT")
unfolding token keyword same_kind
insert_token = record { read = λ z. refl; bare = λ z. refl; same = refl }

pub into_token : IsToken k.Into (codes "INTO")
unfolding token keyword same_kind
into_token = record { read = λ z. refl; bare = λ z. refl; same = refl }

pub values_token : IsToken k.Values (codes "VALUES")
unfolding token keyword same_kind
values_token = record { read = λ z. refl; bare = λ z. refl; same = refl }

pub update_token : IsToken k.Update (codes "UPDATE")
unfolding token keyword same_kind
update_token = record { read = λ z. refl; bare = λ z. refl; same = refl }

pub set_token : IsToken k.Set (codes "SET")
unfolding token keyword same_kind
set_token = record { read = λ z. refl; bare = λ z. refl; same = refl }

pub delete_token : IsToken k.Delete (codes "DELETE")
unfolding token keyword same_kind
delete_token = record { read = λ z. refl; bare = λ z. refl; same = refl }

pub and_token : IsToken k.And (codes "AND")
unfolding token keyword same_kind
and_token = record { read = λ z. refl; bare = λ z. refl; same = refl }

pub or_token : IsToken k.Or (codes "OR")
unfolding token keyword same_kind
or_token = record { read = λ z. refl; bare = λ z. refl; same = refl }

pub not_token : IsToken k.Not (codes "NOT")
unfolding token keyword same_kind
not_token = record { read = λ z. refl; bare = λ z. refl; same = refl }

pub in_token : IsToken k.In (codes "IN")
unfolding token keyword same_kind
in_token = record { read = λ z. refl; bare = λ z. refl; same = refl }

pub is_token : IsToken k.Is (codes "IS")
unfolding token keyword same_kind
is_token = record { read = λ z. refl; bare = λ z. refl; same = refl }

pub null_token : IsToken k.Null (codes "NULL")
unfolding token keyword same_kind
null_token = record { read = λ z. refl; bare = λ z. refl; same = refl }

pub default_token : IsToken k.Default (codes "DEFAULT")
unfolding token keyword same_kind
default_token = record { read = λ z. refl; bare = λ z. refl; same = refl }
