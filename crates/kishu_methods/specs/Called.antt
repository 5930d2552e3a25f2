-- When a call of a method gives what the definition says.
use Rattle.kishu_meaning.specs.calls.Methods as m
use Rattle.kishu_methods.specs.declared.method.ListMethod.{ListMethod}
use Rattle.kishu_methods.specs.declared.method.ListMethod.TheVariants as lists
use Rattle.kishu_methods.specs.declared.method.TupleMethod.{TupleMethod}
use Rattle.kishu_methods.specs.declared.method.TupleMethod.TheVariants as tuples
use Rattle.kishu_methods.specs.declared.method.DictMethod.{DictMethod}
use Rattle.kishu_methods.specs.declared.method.DictMethod.TheVariants as dicts
use Rattle.kishu_methods.specs.declared.method.TextMethod.{TextMethod}
use Rattle.kishu_methods.specs.declared.method.TextMethod.TheVariants as texts
pub use Rattle.kishu_items.specs.Called.{moment_of, Fails, Gives}

abbrev pub list_method_of : ListMethod → m.Method
list_method_of lists.Append = m.append
list_method_of lists.Clear = m.clear
list_method_of lists.Copy = m.copy
list_method_of lists.Count = m.count
list_method_of lists.Extend = m.extend
list_method_of lists.Index = m.index
list_method_of lists.Insert = m.insert
list_method_of lists.Pop = m.pop
list_method_of lists.Remove = m.remove
list_method_of lists.Reverse = m.reverse
list_method_of lists.Sort = m.sort

abbrev pub tuple_method_of : TupleMethod → m.Method
tuple_method_of tuples.Count = m.count
tuple_method_of tuples.Index = m.index

abbrev pub dict_method_of : DictMethod → m.Method
dict_method_of dicts.Clear = m.clear
dict_method_of dicts.Copy = m.copy
dict_method_of dicts.Get = m.get
dict_method_of dicts.Pop = m.pop
dict_method_of dicts.SetDefault = m.setdefault
dict_method_of dicts.Update = m.update

abbrev pub text_method_of : TextMethod → m.Method
text_method_of texts.Count = m.count
text_method_of texts.EndsWith = m.endswith
text_method_of texts.Find = m.find
text_method_of texts.IsDigit = m.isdigit
text_method_of texts.Join = m.join
text_method_of texts.Replace = m.replace
text_method_of texts.Split = m.split
text_method_of texts.StartsWith = m.startswith
text_method_of texts.Strip = m.strip
