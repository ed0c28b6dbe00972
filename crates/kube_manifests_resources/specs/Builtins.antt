-- Trusted by the clauses of other library calls.
-- The resources that an API server of Kubernetes 1.33 serves unless it is told otherwise: Kubernetes API reference
-- v1.33, the resources of each group with their paths.
use Rattle.kube_manifests_resources.specs.declared.resources.ResourceScope.{ResourceScope}
use Rattle.kube_manifests_resources.specs.declared.resources.ResourceScope.TheVariants.{Cluster, Namespaced}
use Rattle.std.specs.Prelude.{ℕ, List, [], ◌∷◌, codes}

pub record GroupVersionData : Type 0 where
  -- the empty text for the core API
  pub group : List ℕ
  pub version : List ℕ

pub record ResourceData : Type 0 where
  pub group : List ℕ
  pub kind : List ℕ
  pub plural : List ℕ
  pub scope : ResourceScope
  -- all groups and versions under which the API server has the same resource
  pub served : List GroupVersionData
  pub subresources : List (List ℕ)

abbrev pub under : List ℕ → List ℕ → GroupVersionData
under group version = record { group = group; version = version }

-- a resource of a group, with its version there
abbrev pub only : List ℕ → List ℕ → List ℕ → List ℕ → ResourceScope → List (List ℕ) → ResourceData
only group version kind plural scope subresources = record {
  group = group;
  kind = kind;
  plural = plural;
  scope = scope;
  served = under group version ∷ [];
  subresources = subresources;
}

-- a resource that is also served under others
abbrev pub served_as : List GroupVersionData → ResourceData → ResourceData
served_as served r = record {
  group = r.group;
  kind = r.kind;
  plural = r.plural;
  scope = r.scope;
  served = served;
  subresources = r.subresources;
}

-- events are served by two groups
abbrev pub events : List GroupVersionData
events = under (codes "") (codes "v1") ∷ under (codes "events.k8s.io") (codes "v1") ∷ []

abbrev pub autoscalers : List GroupVersionData
autoscalers = under (codes "autoscaling") (codes "v1") ∷ under (codes "autoscaling") (codes "v2") ∷ []

abbrev pub status : List (List ℕ)
status = codes "status" ∷ []

abbrev pub scale_and_status : List (List ℕ)
scale_and_status = codes "scale" ∷ codes "status" ∷ []

abbrev pub of_pods : List (List ℕ)
of_pods =
    codes "attach" ∷ codes "binding" ∷ codes "ephemeralcontainers" ∷ codes "eviction" ∷ codes "exec" ∷ codes "log"
    ∷ codes "portforward" ∷ codes "proxy" ∷ codes "resize" ∷ codes "status" ∷ []

abbrev pub builtins : List ResourceData
builtins =
    only (codes "") (codes "v1") (codes "Binding") (codes "bindings") Namespaced []
    ∷ only (codes "") (codes "v1") (codes "ComponentStatus") (codes "componentstatuses") Cluster []
    ∷ only (codes "") (codes "v1") (codes "ConfigMap") (codes "configmaps") Namespaced []
    ∷ only (codes "") (codes "v1") (codes "Endpoints") (codes "endpoints") Namespaced []
    ∷ served_as events (only (codes "") (codes "v1") (codes "Event") (codes "events") Namespaced [])
    ∷ only (codes "") (codes "v1") (codes "LimitRange") (codes "limitranges") Namespaced []
    ∷ only (codes "") (codes "v1") (codes "Namespace")
    (codes "namespaces") Cluster (codes "finalize" ∷ codes "status" ∷ [])
    ∷ only (codes "") (codes "v1") (codes "Node") (codes "nodes") Cluster (codes "proxy" ∷ codes "status" ∷ [])
    ∷ only (codes "") (codes "v1") (codes "PersistentVolume") (codes "persistentvolumes") Cluster status
    ∷ only (codes "") (codes "v1") (codes "PersistentVolumeClaim") (codes "persistentvolumeclaims") Namespaced status
    ∷ only (codes "") (codes "v1") (codes "Pod") (codes "pods") Namespaced of_pods
    ∷ only (codes "") (codes "v1") (codes "PodTemplate") (codes "podtemplates") Namespaced []
    ∷ only (codes "") (codes "v1") (codes "ReplicationController")
    (codes "replicationcontrollers") Namespaced scale_and_status
    ∷ only (codes "") (codes "v1") (codes "ResourceQuota") (codes "resourcequotas") Namespaced status
    ∷ only (codes "") (codes "v1") (codes "Secret") (codes "secrets") Namespaced []
    ∷ only (codes "") (codes "v1") (codes "Service") (codes "services") Namespaced (codes "proxy" ∷ codes "status" ∷ [])
    ∷ only (codes "") (codes "v1") (codes "ServiceAccount") (codes "serviceaccounts") Namespaced (codes "token" ∷ [])
    ∷ only (codes "admissionregistration.k8s.io") (codes "v1") (codes "MutatingWebhookConfiguration")
    (codes "mutatingwebhookconfigurations") Cluster []
    ∷ only (codes "admissionregistration.k8s.io") (codes "v1") (codes "ValidatingAdmissionPolicy")
    (codes "validatingadmissionpolicies") Cluster status
    ∷ only (codes "admissionregistration.k8s.io") (codes "v1") (codes "ValidatingAdmissionPolicyBinding")
    (codes "validatingadmissionpolicybindings") Cluster []
    ∷ only (codes "admissionregistration.k8s.io") (codes "v1") (codes "ValidatingWebhookConfiguration")
    (codes "validatingwebhookconfigurations") Cluster []
    ∷ only (codes "apiextensions.k8s.io") (codes "v1") (codes "CustomResourceDefinition")
    (codes "customresourcedefinitions") Cluster status
    ∷ only (codes "apiregistration.k8s.io") (codes "v1") (codes "APIService") (codes "apiservices") Cluster status
    ∷ only (codes "apps") (codes "v1") (codes "ControllerRevision") (codes "controllerrevisions") Namespaced []
    ∷ only (codes "apps") (codes "v1") (codes "DaemonSet") (codes "daemonsets") Namespaced status
    ∷ only (codes "apps") (codes "v1") (codes "Deployment") (codes "deployments") Namespaced scale_and_status
    ∷ only (codes "apps") (codes "v1") (codes "ReplicaSet") (codes "replicasets") Namespaced scale_and_status
    ∷ only (codes "apps") (codes "v1") (codes "StatefulSet") (codes "statefulsets") Namespaced scale_and_status
    ∷ only (codes "authentication.k8s.io") (codes "v1") (codes "SelfSubjectReview")
    (codes "selfsubjectreviews") Cluster []
    ∷ only (codes "authentication.k8s.io") (codes "v1") (codes "TokenReview") (codes "tokenreviews") Cluster []
    ∷ only (codes "authorization.k8s.io") (codes "v1") (codes "LocalSubjectAccessReview")
    (codes "localsubjectaccessreviews") Namespaced []
    ∷ only (codes "authorization.k8s.io") (codes "v1") (codes "SelfSubjectAccessReview")
    (codes "selfsubjectaccessreviews") Cluster []
    ∷ only (codes "authorization.k8s.io") (codes "v1") (codes "SelfSubjectRulesReview")
    (codes "selfsubjectrulesreviews") Cluster []
    ∷ only (codes "authorization.k8s.io") (codes "v1") (codes "SubjectAccessReview")
    (codes "subjectaccessreviews") Cluster []
    ∷ served_as autoscalers (only (codes "autoscaling") (codes "v1") (codes "HorizontalPodAutoscaler")
    (codes "horizontalpodautoscalers") Namespaced status)
    ∷ only (codes "batch") (codes "v1") (codes "CronJob") (codes "cronjobs") Namespaced status
    ∷ only (codes "batch") (codes "v1") (codes "Job") (codes "jobs") Namespaced status
    ∷ only (codes "certificates.k8s.io") (codes "v1") (codes "CertificateSigningRequest")
    (codes "certificatesigningrequests") Cluster (codes "approval" ∷ codes "status" ∷ [])
    ∷ only (codes "coordination.k8s.io") (codes "v1") (codes "Lease") (codes "leases") Namespaced []
    ∷ only (codes "discovery.k8s.io") (codes "v1") (codes "EndpointSlice") (codes "endpointslices") Namespaced []
    ∷ served_as events (only (codes "events.k8s.io") (codes "v1") (codes "Event") (codes "events") Namespaced [])
    ∷ only (codes "flowcontrol.apiserver.k8s.io") (codes "v1") (codes "FlowSchema") (codes "flowschemas") Cluster status
    ∷ only (codes "flowcontrol.apiserver.k8s.io") (codes "v1") (codes "PriorityLevelConfiguration")
    (codes "prioritylevelconfigurations") Cluster status
    ∷ only (codes "networking.k8s.io") (codes "v1") (codes "Ingress") (codes "ingresses") Namespaced status
    ∷ only (codes "networking.k8s.io") (codes "v1") (codes "IngressClass") (codes "ingressclasses") Cluster []
    ∷ only (codes "networking.k8s.io") (codes "v1") (codes "IPAddress") (codes "ipaddresses") Cluster []
    ∷ only (codes "networking.k8s.io") (codes "v1") (codes "NetworkPolicy") (codes "networkpolicies") Namespaced []
    ∷ only (codes "networking.k8s.io") (codes "v1") (codes "ServiceCIDR") (codes "servicecidrs") Cluster status
    ∷ only (codes "node.k8s.io") (codes "v1") (codes "RuntimeClass") (codes "runtimeclasses") Cluster []
    ∷ only (codes "policy") (codes "v1") (codes "PodDisruptionBudget") (codes "poddisruptionbudgets") Namespaced status
    ∷ only (codes "rbac.authorization.k8s.io") (codes "v1") (codes "ClusterRole") (codes "clusterroles") Cluster []
    ∷ only (codes "rbac.authorization.k8s.io") (codes "v1") (codes "ClusterRoleBinding")
    (codes "clusterrolebindings") Cluster []
    ∷ only (codes "rbac.authorization.k8s.io") (codes "v1") (codes "Role") (codes "roles") Namespaced []
    ∷ only (codes "rbac.authorization.k8s.io") (codes "v1") (codes "RoleBinding") (codes "rolebindings") Namespaced []
    ∷ only (codes "scheduling.k8s.io") (codes "v1") (codes "PriorityClass") (codes "priorityclasses") Cluster []
    ∷ only (codes "storage.k8s.io") (codes "v1") (codes "CSIDriver") (codes "csidrivers") Cluster []
    ∷ only (codes "storage.k8s.io") (codes "v1") (codes "CSINode") (codes "csinodes") Cluster []
    ∷ only (codes "storage.k8s.io") (codes "v1") (codes "CSIStorageCapacity")
    (codes "csistoragecapacities") Namespaced []
    ∷ only (codes "storage.k8s.io") (codes "v1") (codes "StorageClass") (codes "storageclasses") Cluster []
    ∷ only (codes "storage.k8s.io") (codes "v1") (codes "VolumeAttachment") (codes "volumeattachments") Cluster status
    ∷ []
